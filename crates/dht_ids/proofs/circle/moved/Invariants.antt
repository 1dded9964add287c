use Rattle.dht_ids.proofs.Numbers.{IsSumSoFar}
use Rattle.dht_ids.proofs.circle.moved.Given as goal

abbrev pub invariant-loop-i : goal.invariant-loop-i
invariant-loop-i l = IsSumSoFar l.from.0 l.by.0 l.place l.i l.carry

abbrev pub decreases-loop-i : goal.decreases-loop-i
decreases-loop-i l = l.i
