use Rattle.std.proofs.Common.{sym, ap, ◌∙◌}
use Rattle.std.specs.List.{list_any}
use Rattle.std.specs.Ordering.{eq_by_cmp}
use Rattle.ivy_base.specs.Naming.{key_cmp}
use Rattle.ring_nodes.specs.NodesState.{NodesState}
use Rattle.ring_nodes.proofs.Joins.{any_peer}
use Rattle.ring_nodes.proofs.Places.{has_id}
use Rattle.ring_nodes.proofs.nodes.RingNodes.is_made.Goals as goal

pub returns : goal.returns
returns c =
    c.has_node.ensures
    ∙ ap (list_any (has_id c.args.id.now)) (c.deref.ensures.value ∙ ap (λ (s : NodesState). s.nodes) c.self.view_is)
    ∙ sym (any_peer (λ q. eq_by_cmp key_cmp q.id c.args.id.now) c.args.self.now.nodes)
