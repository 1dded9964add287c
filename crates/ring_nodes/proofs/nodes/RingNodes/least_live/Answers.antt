use Rattle.std.proofs.Common.{ap, ◌∙◌, Some, cond, rules, sym}
use Rattle.world_model.specs.World.{peer_of}
use Rattle.ring_nodes.specs.Joining.{lesser_of}
use Rattle.ring_nodes.specs.NodesState.{NodesState}
use Rattle.ring_nodes.proofs.Joins.{least_step}
use Rattle.ring_nodes.proofs.nodes.RingNodes.least_live.Goals as goal
use Rattle.ring_nodes.proofs.nodes.RingNodes.least_live.Goals.{then-is_live, else-is_live}

pub live-preserved : goal.live-preserved
live-preserved c =
    least_step c.args.self.now.nodes c.deref-node-items.result.now c.live.node-index c.node-item.result c.node-item.result c.live.found c.if-is_live.found
    (c.deref-node-items.ensures.value ∙ ap (λ (s : NodesState). s.nodes) c.self.view_is) (search rules) (search rules) c.live.invariant
    (elim c.if-is_live.branch [
      | then-is_live w ↦ w.found-is ∙ ap (λ p. Some p) (w.lesser.ensures ∙ ap (lesser_of c.live.found) w.peer.ensures) ∙ sym (ap (λ b. cond b (Some (lesser_of c.live.found (peer_of c.node-item.result))) c.live.found) (sym c.is_live.ensures ∙ w.if-is_live.true))
      | else-is_live w ↦ w.found-is ∙ sym (ap (λ b. cond b (Some (lesser_of c.live.found (peer_of c.node-item.result))) c.live.found) (sym c.is_live.ensures ∙ w.if-is_live.false))
    ])
