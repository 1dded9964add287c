use Rattle.std.proofs.Common.{◌≡◌, ◌==◌, Some, None, map, find, sym, ap, ◌∙◌, subst}
use Rattle.world_model.specs.World.{peer_of}
use Rattle.round_laws.specs.RingOf.{AreApart}
use Rattle.ring_nodes.specs.NodesState.{NodesState, IsPeerOf}
use Rattle.ring_nodes.proofs.Finding.{no_peer, peer_found}
use Rattle.ring_nodes.proofs.nodes.RingNodes.numbered.Goals as goal

pub returns-in_err-node : goal.returns-in_err-node
returns-in_err-node c =
    no_peer c.args.self.now (find (λ n. (peer_of n).number == c.args.number) c.args.self.now.nodes) c.from_residual.result
    (subst (λ l. find (λ n. (peer_of n).number == c.args.number) l ≡ None) (c.deref.ensures.value ∙ ap (λ (s : NodesState). s.nodes) c.self.view_is) (sym c.in_err-node.ensures)) c.from_residual.ensures

pub returns : goal.returns
returns c =
    subst (λ p. IsPeerOf c.args.self.now (find (λ n. (peer_of n).number == c.args.number) c.args.self.now.nodes) (Some p)) (sym c.peer.ensures)
    (peer_found c.args.self.now (λ n. (peer_of n).number == c.args.number) c.in_ok-node.node.now (subst (λ (s : NodesState). AreApart (map peer_of s.nodes)) c.self.view_is c.self.invariant.apart)
    (subst (λ l. find (λ n. (peer_of n).number == c.args.number) l ≡ Some c.in_ok-node.node.now) (c.deref.ensures.value ∙ ap (λ (s : NodesState). s.nodes) c.self.view_is) (sym c.in_ok-node.ensures)))
