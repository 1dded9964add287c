use Rattle.std.proofs.Common.{◌≡◌, get_or, sym, ◌∙◌, subst, IfOk}
use Rattle.ring_nodes.specs.NodesState.{NodesState, held_by}
use Rattle.ring_nodes.proofs.Finding.{found_node, no_node}
use Rattle.ring_nodes.proofs.nodes.RingNodes.held.Goals as goal

pub returns-in_default : goal.returns-in_default
returns-in_default c = no_node c.args.self.now c.args.id.now (sym c.place_of.ensures ∙ c.in_default.is)

pub returns : goal.returns
returns c =
    subst (λ o. IfOk c.held.result (λ posts. posts ≡ held_by o))
    (found_node c.args.self.now c.args.id.now c.in-Some.place c.index.result.now (sym c.place_of.ensures ∙ c.in-Some.is) (subst (λ (s : NodesState). c.index.result.now ≡ get_or s.nodes c.in-Some.place c.index.result.now) c.self.view_is c.index.ensures))
    c.held.ensures
