use Rattle.std.proofs.Common.{[], ◌∷◌, ◌++◌, sym, ap, ◌∙◌, subst}
use Rattle.ring_nodes.specs.NodesState.{AreSound, NodesState}
use Rattle.ring_nodes.proofs.Sound.{sound_more}
use Rattle.ring_nodes.proofs.nodes.RingNodes.add.Goals as goal

pub invariant_of-self-2 : goal.invariant_of-self-2
invariant_of-self-2 c =
    subst AreSound (sym (c.in_ok-push.ensures.items ∙ ap (λ (s : NodesState). s.nodes ++ c.args.node ∷ []) c.self.view_is))
    (sound_more c.args.self.now c.args.node (subst (λ (s : NodesState). AreSound s.nodes) c.self.view_is c.self.invariant) c.requires)
