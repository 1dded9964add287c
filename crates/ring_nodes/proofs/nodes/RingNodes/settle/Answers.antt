use Rattle.ring_nodes.proofs.Sound.{sound_settled}
use Rattle.ring_nodes.proofs.nodes.RingNodes.settle.Goals as goal

pub invariant_of-self : goal.invariant_of-self
invariant_of-self c =
    sound_settled c.args.count c.args.replicas c.in_ok-nodes.nodes.items c.requires.count.0 c.requires.count.1 c.requires.few.0 c.requires.few.1 c.in_ok-nodes.ensures
