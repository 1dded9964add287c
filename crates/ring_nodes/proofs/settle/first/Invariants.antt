use Rattle.std.proofs.Common.{◌≡◌}
use Rattle.world_model.specs.Ring.{first_peers}
use Rattle.ring_nodes.proofs.settle.first.Given as goal

abbrev pub invariant-peers : goal.invariant-peers
invariant-peers l = l.peers.items ≡ first_peers l.number
