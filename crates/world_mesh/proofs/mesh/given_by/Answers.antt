use Rattle.std.proofs.Common.{sym, ◌∙◌, subst}
use Rattle.ring_model.specs.Members.{IsAmong}
use Rattle.ring_model.proofs.Lists.{some_same}
use Rattle.dhash_model.specs.Signed.{hss_judged}
use Rattle.ring_nodes.specs.NodesState.{made_peers}
use Rattle.world_mesh.specs.Trails.Becomes.{nobody}
use Rattle.world_mesh.proofs.Fates.{are_two, brings, found_made, gives_fate, gives_form, is_one, never_made}
use Rattle.world_mesh.proofs.mesh.given_by.Goals as goal
use Rattle.world_mesh.proofs.mesh.given_by.Goals.{in_default-via-in-Some+else-is_peer, in_default-via-in_default}

pub ask-requires-clause-made : goal.ask-requires-clause-made
ask-requires-clause-made c =
    subst (λ p. IsAmong p (made_peers c.args.nodes.now)) (is_one c.in-Some.peer c.args.node.now (sym c.is_peer.ensures ∙ c.if-is_peer.true))
    (found_made c.args.nodes.now _ c.numbered.result c.in-Some.peer c.numbered.ensures c.in-Some.is)

pub ask-requires-clause-brings : goal.ask-requires-clause-brings
ask-requires-clause-brings c = brings (made_peers c.args.nodes.now) c.args.ask.now c.requires

pub returns-in-Some-clause-becomes : goal.returns-in-Some-clause-becomes
returns-in-Some-clause-becomes c = gives_fate hss_judged c.args.nodes.now c.ask.new.self c.args.node.now c.args.ask.now c.ask.result c.ask.ensures.fate

pub returns-in-Some-clause-form : goal.returns-in-Some-clause-form
returns-in-Some-clause-form c =
    gives_form hss_judged c.args.nodes.now c.ask.new.self c.args.node.now c.args.ask.now c.ask.result
    (gives_fate hss_judged c.args.nodes.now c.ask.new.self c.args.node.now c.args.ask.now c.ask.result c.ask.ensures.fate)

pub returns-in_default-clause-becomes : goal.returns-in_default-clause-becomes
returns-in_default-clause-becomes c =
    nobody (never_made c.args.nodes.now c.args.node.now c.numbered.result c.are_sound.ensures c.numbered.ensures (λ e. elim c.in_default.branch [
      | in_default-via-in-Some+else-is_peer w ↦
          are_two w.in-Some.peer c.args.node.now (sym w.is_peer.ensures ∙ w.if-is_peer.false) (some_same w.in-Some.peer c.args.node.now (sym w.in-Some.is ∙ e))
      | in_default-via-in_default w ↦ w.in_default.not-Some c.args.node.now e
    ]))
