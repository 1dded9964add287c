use Rattle.ring_nodes.proofs.Joins.{new_joined}
use Rattle.ring_nodes.proofs.nodes.RingNodes.take_in.Goals as goal

pub add-requires : goal.add-requires
add-requires c = new_joined c.args.self.now c.args.peer c.args.replicas c.requires.new c.args.owners.now c.in_ok-joined.field-0 c.requires.made c.in_ok-joined.ensures
