use Rattle.std.proofs.Common.{◌≡◌, map, get_or, set, refl, sym, ap, ◌∙◌, subst}
use Rattle.ring_model.specs.Members.{IsAmong}
use Rattle.world_model.specs.World.{peer_of}
use Rattle.round_laws.specs.RingOf.{AreApart, KnowsOnly}
use Rattle.ring_nodes.specs.NodesState.{NodesState}
use Rattle.ring_nodes.specs.Upkeep.{fingered}
use Rattle.ring_nodes.proofs.Changing.{changed, fingered_knows}
use Rattle.ring_nodes.proofs.Places.{peers_set}
use Rattle.ring_nodes.proofs.Sound.{exchanged}
use Rattle.ring_nodes.proofs.nodes.RingNodes.fix_finger.Goals as goal

pub invariant_of-self : goal.invariant_of-self
invariant_of-self c =
    exchanged c.self.inside.nodes.items c.args.self.now c.args.peer.now.id c.place-place.result c.index_mut.result.now c.fix_finger.new.self (ap (λ (s : NodesState). s.nodes) c.self.view_is) c.place-place.ensures c.index_mut.ensures.value c.self.invariant
    (ap peer_of c.fix_finger.ensures) (λ h me. subst (KnowsOnly (map peer_of c.self.inside.nodes.items)) (sym c.fix_finger.ensures) (fingered_knows (map peer_of c.self.inside.nodes.items) c.index_mut.result.now h c.args.index c.args.owner.now (subst (λ (s : NodesState). IsAmong c.args.owner.now (map peer_of s.nodes)) (sym c.self.view_is) c.requires.owner)))

pub returns-clause-changes : goal.returns-clause-changes
returns-clause-changes c =
    changed (fingered c.args.index c.args.owner.now) c.args.self.now (record { nodes = set c.self.inside.nodes.items c.place-place.result c.fix_finger.new.self; asked = c.self.inside.asked; lost = c.self.inside.lost.items }) c.args.peer.now.id c.place-place.result c.index_mut.result.now c.fix_finger.new.self
    (subst (λ (s : NodesState). AreApart (map peer_of s.nodes)) c.self.view_is c.self.invariant.apart)
    c.place-place.ensures (subst (λ (s : NodesState). c.index_mut.result.now ≡ get_or s.nodes c.place-place.result c.index_mut.result.now) c.self.view_is c.index_mut.ensures.value) c.fix_finger.ensures refl
    (ap (λ (s : NodesState). set s.nodes c.place-place.result c.fix_finger.new.self) c.self.view_is) (ap (λ (s : NodesState). s.asked) c.self.view_is) (ap (λ (s : NodesState). s.lost) c.self.view_is)

pub returns-clause-made : goal.returns-clause-made
returns-clause-made c =
    peers_set c.self.inside.nodes.items c.place-place.result c.fix_finger.new.self c.index_mut.result.now c.index_mut.ensures.value (ap peer_of c.fix_finger.ensures)
    ∙ ap (λ (s : NodesState). map peer_of s.nodes) c.self.view_is
