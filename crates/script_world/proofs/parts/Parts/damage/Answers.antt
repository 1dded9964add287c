use Rattle.std.proofs.Common.{◌≡◌, sym, ap, ◌∙◌, subst}
use Rattle.world_model.specs.Faults.{key_named, node_named}
use Rattle.ring_nodes.specs.NodesState.{IsPeerOf, node_of}
use Rattle.script_world.specs.PartsState.{HasParts, PartsState}
use Rattle.script_world.proofs.Faulting.{damages}
use Rattle.script_world.proofs.NamedIn.{peer_is}
use Rattle.script_world.proofs.parts.Parts.damage.Goals as goal

pub returns : goal.returns
returns c = λ w has.
    let from : HasParts w _ = subst (HasParts w) (sym c.self.view_is) has in
    let named : node_named w c.args.node.now ≡ node_of c.self.inside.nodes c.in-Some.peer.id =
    peer_is c.args.self.now.nodes (node_named w c.args.node.now) c.in-Some.peer (subst (IsPeerOf c.args.self.now.nodes (node_named w c.args.node.now)) c.in-Some.is (c.in_ok-peer.ensures w has))
    ∙ ap (λ (s : PartsState). node_of s.nodes c.in-Some.peer.id) (sym c.self.view_is) in
    let line = rw c.in-Some-2.is at c.in_ok-block.ensures.line in
    let met = rw c.as_slice.ensures at c.in_ok-meet.ensures.met in
    damages w _ from (node_named w c.args.node.now) (key_named w c.args.key.now) c.in-Some.peer.id c.in-Some-key_named.key c.args.offset c.args.byte c.damage.new.self c.meet.new.self c.in-Some-2.block c.new.result.items named
    (sym (c.in-Some-key_named.ensures w has)) (line w from.nodes) met c.new.ensures.items
