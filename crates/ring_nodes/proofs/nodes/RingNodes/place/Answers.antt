use Rattle.std.proofs.Common.{map, sym, ◌∙◌, subst}
use Rattle.world_model.specs.World.{peer_of}
use Rattle.round_laws.specs.RingOf.{AreApart}
use Rattle.ring_nodes.specs.NodesState.{NodesState}
use Rattle.ring_nodes.proofs.Places.{made_has_place}
use Rattle.ring_nodes.proofs.nodes.RingNodes.place.Goals as goal

pub unreachable-requires : goal.unreachable-requires
unreachable-requires c =
    made_has_place c.args.self.now.nodes c.args.peer.now (subst (λ (s : NodesState). AreApart (map peer_of s.nodes)) c.self.view_is c.self.invariant.apart) c.requires (sym c.place_of.ensures ∙ c.in_default.is)
