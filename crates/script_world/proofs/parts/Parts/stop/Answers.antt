use Rattle.std.proofs.Common.{◌≡◌, sym, ap, ◌∙◌, subst}
use Rattle.world_model.specs.Faults.{node_named}
use Rattle.ring_nodes.specs.NodesState.{IsPeerOf, node_of}
use Rattle.script_world.specs.PartsState.{HasParts, PartsState}
use Rattle.script_world.proofs.Faulting.{stops}
use Rattle.script_world.proofs.NamedIn.{peer_is}
use Rattle.script_world.proofs.parts.Parts.stop.Goals as goal

pub returns : goal.returns
returns c = λ w has.
    let from : HasParts w _ = subst (HasParts w) (sym c.self.view_is) has in
    let named : node_named w c.args.node.now ≡ node_of c.self.inside.nodes c.in-Some.peer.id =
    peer_is c.args.self.now.nodes (node_named w c.args.node.now) c.in-Some.peer (subst (IsPeerOf c.args.self.now.nodes (node_named w c.args.node.now)) c.in-Some.is (c.in_ok-peer.ensures w has))
    ∙ ap (λ (s : PartsState). node_of s.nodes c.in-Some.peer.id) (sym c.self.view_is) in
    stops w _ from (node_named w c.args.node.now) c.in-Some.peer.id c.stop.new.self c.new.result.items named (c.if-not-stop.ensures.line w from.nodes) c.new.ensures.items
