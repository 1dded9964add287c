use Rattle.dht_ids.proofs.Numbers.{IsDistanceSoFar}
use Rattle.dht_ids.proofs.circle.distance.Given as goal

abbrev pub invariant-loop-i : goal.invariant-loop-i
invariant-loop-i l = IsDistanceSoFar l.to.0 l.from.0 l.gap l.i l.borrow

abbrev pub decreases-loop-i : goal.decreases-loop-i
decreases-loop-i l = l.i
