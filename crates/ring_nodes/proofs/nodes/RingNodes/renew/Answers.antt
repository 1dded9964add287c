use Rattle.std.proofs.Common.{◌≡◌, map, get_or, set, refl, sym, ap, ◌∙◌, subst}
use Rattle.world_model.specs.Nodes.{Node}
use Rattle.world_model.specs.World.{peer_of}
use Rattle.round_laws.specs.RingOf.{AreApart, KnowsOnly}
use Rattle.ring_nodes.specs.NodesState.{NamesOnly, NodesState}
use Rattle.ring_nodes.specs.Upkeep.{renewed_by}
use Rattle.ring_nodes.proofs.Changing.{call_changed, call_kept, renewed_knows}
use Rattle.ring_nodes.proofs.Places.{peers_set}
use Rattle.ring_nodes.proofs.Sound.{exchanged}
use Rattle.ring_nodes.proofs.nodes.RingNodes.renew.Goals as goal

pub invariant_of-self : goal.invariant_of-self
invariant_of-self c =
    exchanged c.self.inside.nodes.items c.args.self.now c.args.peer.now.id c.place-place.result c.index_mut.result.now c.renew.new.self (ap (λ (s : NodesState). s.nodes) c.self.view_is) c.place-place.ensures c.index_mut.ensures.value c.self.invariant
    (call_kept (λ (n : Node). peer_of n ≡ peer_of c.index_mut.result.now) (renewed_by c.args.heard.now) c.index_mut.result.now c.renew.new.self c.renew.result c.renew.ensures.renewed c.renew.ensures.unchanged refl refl)
    (λ h me. call_kept (KnowsOnly (map peer_of c.self.inside.nodes.items)) (renewed_by c.args.heard.now) c.index_mut.result.now c.renew.new.self c.renew.result c.renew.ensures.renewed c.renew.ensures.unchanged h
    (renewed_knows (map peer_of c.self.inside.nodes.items) c.index_mut.result.now h c.args.heard.now c.requires.near (subst (λ (s : NodesState). NamesOnly (map peer_of s.nodes) c.args.heard.now) (sym c.self.view_is) c.requires.named)))

pub returns-clause-changes : goal.returns-clause-changes
returns-clause-changes c =
    call_changed (renewed_by c.args.heard.now) c.args.self.now (record { nodes = set c.self.inside.nodes.items c.place-place.result c.renew.new.self; asked = c.self.inside.asked; lost = c.self.inside.lost.items }) c.args.peer.now.id c.place-place.result c.index_mut.result.now c.renew.new.self c.renew.result
    (subst (λ (s : NodesState). AreApart (map peer_of s.nodes)) c.self.view_is c.self.invariant.apart)
    c.place-place.ensures (subst (λ (s : NodesState). c.index_mut.result.now ≡ get_or s.nodes c.place-place.result c.index_mut.result.now) c.self.view_is c.index_mut.ensures.value) c.renew.ensures.renewed refl
    (ap (λ (s : NodesState). set s.nodes c.place-place.result c.renew.new.self) c.self.view_is) (ap (λ (s : NodesState). s.asked) c.self.view_is) (ap (λ (s : NodesState). s.lost) c.self.view_is)

pub returns-clause-made : goal.returns-clause-made
returns-clause-made c =
    peers_set c.self.inside.nodes.items c.place-place.result c.renew.new.self c.index_mut.result.now c.index_mut.ensures.value
    (call_kept (λ (n : Node). peer_of n ≡ peer_of c.index_mut.result.now) (renewed_by c.args.heard.now) c.index_mut.result.now c.renew.new.self c.renew.result c.renew.ensures.renewed c.renew.ensures.unchanged refl refl)
    ∙ ap (λ (s : NodesState). map peer_of s.nodes) c.self.view_is
