use Rattle.std.proofs.Common.{◌≡◌, filter, take, not}
use Rattle.ring_model.specs.Circle.{number}
use Rattle.ring_model.specs.Arc.{is_strictly_between}
use Rattle.dht_ids.specs.Peers.{place}
use Rattle.chord_core.proofs.route.owners.Given as goal

abbrev pub invariant-loop-peer : goal.invariant-loop-peer
invariant-loop-peer l = l.found.items ≡ filter (λ m. not (is_strictly_between (place l.me) (place m) (number l.key))) (take l.peer-index l.list)
