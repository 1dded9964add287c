use Rattle.std.proofs.Common.{ℕ, List, Some, sym, ap, ◌∙◌, subst}
use Rattle.script_model.specs.Messages.{Given, message_of}
use Rattle.session_steps.specs.Representing.{BeginsIn}
use Rattle.world_model.specs.Calls.{sending_of}
use Rattle.script_world.specs.PartsState.{HasParts, PartsState}
use Rattle.script_world.specs.Running.{BeginsOf}
use Rattle.script_world.proofs.Sent.{begins, nobody_there}
use Rattle.script_world.proofs.parts.Parts.begin_call.Goals as goal

pub returns-in_default : goal.returns-in_default
returns-in_default c = λ w has.
    nobody_there w c.args.self.now has c.args.log.now c.args.pieces.now (ap (λ (s : PartsState). s.participants) (sym c.self.view_is) ∙ c.self.invariant.nobody c.in_default.is)

pub returns : goal.returns
returns c = λ w has.
    let from : HasParts w _ = subst (HasParts w) (sym c.self.view_is) has in
    subst (λ (s : PartsState). BeginsOf s (Some c.in_ok-call.call) w (sending_of w c.args.log.now c.args.pieces.now)) c.self.view_is
    (begins w _ from c.args.log.now c.args.pieces.now c.in-Some-named.one.now (c.in-Some-named.ensures.named w from.participants) c.in-Some-view.view.now (sym c.in-Some-view.ensures) c.in-Some-2.message c.in_ok-call.call
    (sym c.in-Some-2.is ∙ c.in_ok-message.ensures.message ∙ ap (λ (replies : List Given). message_of replies c.in-Some-view.view.now c.args.pieces.now) c.as_slice.ensures.value)
    (subst (λ (m : List ℕ). BeginsIn c.self.inside.nodes c.in-Some-named.one.now m c.in_ok-call.call) c.as_slice-2.ensures c.in_ok-call.ensures.begun) (c.in-Some.is ∙ ap (λ (n : ℕ). Some n) (sym c.in_ok-call.ensures.replicas)))
