use Rattle.std.proofs.Common.{◌≡◌, map, get_or, set, refl, sym, ap, ◌∙◌, subst}
use Rattle.world_model.specs.World.{peer_of}
use Rattle.round_laws.specs.RingOf.{AreApart, KnowsOnly}
use Rattle.ring_nodes.specs.NodesState.{NodesState}
use Rattle.ring_nodes.specs.Upkeep.{forgotten}
use Rattle.ring_nodes.proofs.Changing.{changed, forgotten_knows}
use Rattle.ring_nodes.proofs.Places.{peers_set}
use Rattle.ring_nodes.proofs.Sound.{exchanged}
use Rattle.ring_nodes.proofs.nodes.RingNodes.forget.Goals as goal

pub invariant_of-self : goal.invariant_of-self
invariant_of-self c =
    exchanged c.self.inside.nodes.items c.args.self.now c.args.peer.now.id c.place-place.result c.index_mut.result.now c.forget.new.self (ap (λ (s : NodesState). s.nodes) c.self.view_is) c.place-place.ensures c.index_mut.ensures.value c.self.invariant
    (ap peer_of c.forget.ensures) (λ h me. subst (KnowsOnly (map peer_of c.self.inside.nodes.items)) (sym c.forget.ensures) (forgotten_knows (map peer_of c.self.inside.nodes.items) c.index_mut.result.now h))

pub returns-clause-changes : goal.returns-clause-changes
returns-clause-changes c =
    changed forgotten c.args.self.now (record { nodes = set c.self.inside.nodes.items c.place-place.result c.forget.new.self; asked = c.self.inside.asked; lost = c.self.inside.lost.items }) c.args.peer.now.id c.place-place.result c.index_mut.result.now c.forget.new.self
    (subst (λ (s : NodesState). AreApart (map peer_of s.nodes)) c.self.view_is c.self.invariant.apart)
    c.place-place.ensures (subst (λ (s : NodesState). c.index_mut.result.now ≡ get_or s.nodes c.place-place.result c.index_mut.result.now) c.self.view_is c.index_mut.ensures.value) c.forget.ensures refl
    (ap (λ (s : NodesState). set s.nodes c.place-place.result c.forget.new.self) c.self.view_is) (ap (λ (s : NodesState). s.asked) c.self.view_is) (ap (λ (s : NodesState). s.lost) c.self.view_is)

pub returns-clause-made : goal.returns-clause-made
returns-clause-made c =
    peers_set c.self.inside.nodes.items c.place-place.result c.forget.new.self c.index_mut.result.now c.index_mut.ensures.value (ap peer_of c.forget.ensures)
    ∙ ap (λ (s : NodesState). map peer_of s.nodes) c.self.view_is
