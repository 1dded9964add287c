use Rattle.std.proofs.Common.{[], sym, subst, rules}
use Rattle.world_model.specs.Ring.{AreSettled, in_ring_order}
use Rattle.world_model.specs.Ring.AreSettled.{none as nobody}
use Rattle.ring_nodes.proofs.Settling.{settled_step, step_taken}
use Rattle.ring_nodes.proofs.settle.settled.Goals as goal

pub nodes-init : goal.nodes-init
nodes-init c = subst (λ ns. AreSettled (in_ring_order c.args.members.now) c.args.replicas [] ns) (sym c.in_ok-nodes.ensures.items) nobody

pub nodes-preserved : goal.nodes-preserved
nodes-preserved c =
    settled_step (in_ring_order c.args.members.now) c.args.replicas c.args.members.now c.nodes.nodes.items c.push.new.self.items c.nodes.peer-index _ c.in_ok-member.field-0
    c.nodes.invariant c.in_ok-member.ensures (step_taken c.args.members.now c.as_slice-peers.result.now c.nodes.peer-index _ c.as_slice-peers.ensures (search rules)) (search rules)
