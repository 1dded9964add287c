use Rattle.std.proofs.Common.{◌≡◌, Some, sym, ap, ◌∙◌, subst}
use Rattle.world_model.specs.Faults.{node_named}
use Rattle.ring_nodes.specs.NodesState.{IsPeerOf, held_by, node_of}
use Rattle.script_world.specs.PartsState.{PartsState}
use Rattle.script_world.proofs.Holding.{shows_held}
use Rattle.script_world.proofs.parts.Parts.holds.Goals as goal

pub returns : goal.returns
returns c = λ before w has.
    let here : Some c.in-Some-2.held ≡ held_by (node_of c.args.self.now.nodes c.in-Some.peer.id) = sym c.in-Some-2.is ∙ c.in_ok-held.ensures ∙ ap (λ (s : PartsState). held_by (node_of s.nodes c.in-Some.peer.id)) c.self.view_is in
    let text = rw c.as_slice.ensures at c.in_ok-held_text.ensures in
    shows_held w c.args.self.now has (node_named w c.args.node.now) c.in-Some.peer c.in-Some-2.held c.in_ok-held_text.field-0.items
    (subst (IsPeerOf c.args.self.now.nodes (node_named w c.args.node.now)) c.in-Some.is (c.in_ok-peer.ensures w has)) here text
