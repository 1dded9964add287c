use Rattle.std.proofs.Common.{◌≡◌, Option, IfOk, sym, ap, ◌∙◌, subst}
use Rattle.dht_ids.specs.declared.peer.Peer.{Peer}
use Rattle.world_model.specs.Faults.{owner_of_key}
use Rattle.world_model.specs.World.{World}
use Rattle.ring_nodes.specs.NodesState.{AreSound, IsNodesOf}
use Rattle.script_world.specs.PartsState.{PartsState}
use Rattle.script_world.proofs.NamedIn.{owners_in}
use Rattle.script_world.proofs.parts.Parts.owner_named.Goals as goal

pub returns : goal.returns
returns c =
    owners_in c.args.self.now c.args.place c.args.key.now c.in-Some.replicas c.in-Some-key_named.key c.owner_of.result (ap (λ (s : PartsState). s.replicas) (sym c.self.view_is) ∙ c.in-Some.is) c.in-Some-key_named.ensures
    (subst (λ (s : PartsState). AreSound s.nodes.nodes) c.self.view_is c.are_sound.ensures)
    (subst (λ (s : PartsState). IfOk c.owner_of.result (λ (p : Option Peer). (w : World) → IsNodesOf w s.nodes → p ≡ owner_of_key w c.in-Some.replicas c.args.place c.in-Some-key_named.key)) c.self.view_is c.owner_of.ensures)
