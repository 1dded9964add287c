use Rattle.ring_model.specs.Circle.{number}
use Rattle.dht_ids.specs.Peers.{place}
use Rattle.chord_core.proofs.Nearer.{ArePut}
use Rattle.chord_core.proofs.route.put_all.Given as goal

abbrev pub invariant-loop-i : goal.invariant-loop-i
invariant-loop-i l = ArePut place l.me (number l.key) l.peers l.fn.found.items l.i l.found.items
