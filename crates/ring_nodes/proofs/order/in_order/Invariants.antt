use Rattle.std.proofs.Common.{◌≡◌, [], take, fold}
use Rattle.world_model.specs.Ring.{with_peer}
use Rattle.ring_nodes.proofs.order.in_order.Given as goal

-- the peers so far
abbrev pub invariant-peers : goal.invariant-peers
invariant-peers l = l.ordered.items ≡ fold with_peer [] (take l.peer-index l.peers)
