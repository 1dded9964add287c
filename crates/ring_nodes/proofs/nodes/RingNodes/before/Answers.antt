use Rattle.std.proofs.Common.{◌≡◌, get_or, sym, ap, subst, IfSome}
use Rattle.ring_model.specs.Members.{IsAmong}
use Rattle.ring_nodes.specs.NodesState.{NodesState, made_peers}
use Rattle.ring_nodes.proofs.Changing.{has_node, knows_at}
use Rattle.ring_nodes.proofs.nodes.RingNodes.before.Goals as goal

pub returns-clause-before : goal.returns-clause-before
returns-clause-before c =
    has_node (λ n. c.before-2.result ≡ n.ring.links.before) c.args.self.now c.args.peer.now.id c.place.result c.index.result.now c.place.ensures
    (subst (λ (s : NodesState). c.index.result.now ≡ get_or s.nodes c.place.result c.index.result.now) c.self.view_is c.index.ensures) c.before-2.ensures

pub returns-clause-made : goal.returns-clause-made
returns-clause-made c =
    subst (λ o. IfSome o (λ q. IsAmong q (made_peers c.args.self.now))) (sym c.before-2.ensures)
    (knows_at c.args.self.now c.self.inside.nodes.items c.args.peer.now.id c.place.result c.index.result.now (ap (λ (s : NodesState). s.nodes) c.self.view_is) c.place.ensures c.index.ensures c.self.invariant).before
