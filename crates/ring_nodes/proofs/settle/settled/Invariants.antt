use Rattle.std.proofs.Common.{take}
use Rattle.world_model.specs.Ring.{AreSettled, in_ring_order}
use Rattle.ring_nodes.proofs.settle.settled.Given as goal

abbrev pub invariant-nodes : goal.invariant-nodes
invariant-nodes l = AreSettled (in_ring_order l.members) l.replicas (take l.peer-index l.members) l.nodes.items
