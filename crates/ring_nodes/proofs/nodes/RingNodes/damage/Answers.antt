use Rattle.std.proofs.Common.{◌≡◌, map, get_or, set, sym, ap, ◌∙◌, subst}
use Rattle.dhash_model.specs.State.{State}
use Rattle.world_model.specs.World.{peer_of}
use Rattle.round_laws.specs.RingOf.{AreApart}
use Rattle.ring_nodes.specs.NodesState.{NodesState}
use Rattle.ring_nodes.proofs.Places.{peers_set}
use Rattle.ring_nodes.proofs.Sound.{exchanged, same_ring}
use Rattle.ring_nodes.proofs.Spoiling.{damages_by, nobody_damaged}
use Rattle.ring_nodes.proofs.nodes.RingNodes.damage.Goals as goal

pub returns-in_default-clause-line : goal.returns-in_default-clause-line
returns-in_default-clause-line c = λ w is. nobody_damaged c.args.self.now c.args.id.now c.args.key.now c.args.offset c.args.byte w (sym c.place_of.ensures ∙ c.in_default.is)

pub invariant_of-self : goal.invariant_of-self
invariant_of-self c =
    exchanged c.self.inside.nodes.items c.args.self.now c.args.id.now c.in-Some.place c.index_mut.result.now c.spoil.new.self (ap (λ (s : NodesState). s.nodes) c.self.view_is) (sym c.place_of.ensures ∙ c.in-Some.is) c.index_mut.ensures.value c.self.invariant
    (ap (λ (r : State). r.me) c.spoil.ensures.ring) (λ h me. same_ring (map peer_of c.self.inside.nodes.items) c.index_mut.result.now c.spoil.new.self c.spoil.ensures.ring h)

pub returns-clause-line : goal.returns-clause-line
returns-clause-line c =
    damages_by c.args.self.now c.args.id.now c.args.key.now c.args.offset c.args.byte (record { nodes = set c.self.inside.nodes.items c.in-Some.place c.spoil.new.self; asked = c.self.inside.asked; lost = c.self.inside.lost.items }) c.in-Some.place c.index_mut.result.now c.spoil.new.self c.spoil.result
    (subst (λ (s : NodesState). AreApart (map peer_of s.nodes)) c.self.view_is c.self.invariant.apart)
    (sym c.place_of.ensures ∙ c.in-Some.is) (subst (λ (s : NodesState). c.index_mut.result.now ≡ get_or s.nodes c.in-Some.place c.index_mut.result.now) c.self.view_is c.index_mut.ensures.value)
    c.spoil.ensures.spoiled
    (ap (λ (s : NodesState). set s.nodes c.in-Some.place c.spoil.new.self) c.self.view_is) (ap (λ (s : NodesState). s.asked) c.self.view_is) (ap (λ (s : NodesState). s.lost) c.self.view_is)

pub returns-clause-made : goal.returns-clause-made
returns-clause-made c =
    peers_set c.self.inside.nodes.items c.in-Some.place c.spoil.new.self c.index_mut.result.now c.index_mut.ensures.value (ap (λ (r : State). r.me) c.spoil.ensures.ring)
    ∙ ap (λ (s : NodesState). map peer_of s.nodes) c.self.view_is
