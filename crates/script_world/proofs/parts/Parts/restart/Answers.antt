use Rattle.std.proofs.Common.{sym, subst, ◌∙◌}
use Rattle.script_participants.specs.Restarting.{HasStartedAgain}
use Rattle.script_world.specs.PartsState.{HasParts}
use Rattle.script_world.proofs.Kept.{kept_changed}
use Rattle.script_world.proofs.Returning.{nobody_starts, refused_so, starts_again}
use Rattle.script_world.proofs.parts.Parts.restart.Goals as goal

pub returns-in_default : goal.returns-in_default
returns-in_default c = λ w has keeps. nobody_starts w _ (subst (HasParts w.0) (sym c.self.view_is) has) c.args.log.now (sym c.in_default.ensures)

pub invariant_of-self : goal.invariant_of-self
invariant_of-self c = kept_changed c.self.inside.replicas c.self.inside.participants c.in-Some.place c.at-one.result.now c.restart.new.self c.self.invariant c.at-one.ensures.value c.restart.ensures.named

pub invariant_of-self-in_err-meet_all-in-Restarted : goal.invariant_of-self-in_err-meet_all-in-Restarted
invariant_of-self-in_err-meet_all-in-Restarted c =
    kept_changed c.self.inside.replicas c.self.inside.participants c.in-Some.place c.at-one.result.now c.restart.new.self c.self.invariant c.at-one.ensures.value c.restart.ensures.named

pub invariant_of-self-in-Restarted : goal.invariant_of-self-in-Restarted
invariant_of-self-in-Restarted c = kept_changed c.self.inside.replicas c.self.inside.participants c.in-Some.place c.at-one.result.now c.restart.new.self c.self.invariant c.at-one.ensures.value c.restart.ensures.named

pub returns-in_ok-meet_all-in-Restarted : goal.returns-in_ok-meet_all-in-Restarted
returns-in_ok-meet_all-in-Restarted c = λ w has keeps.
    starts_again w _ (subst (HasParts w.0) (sym c.self.view_is) has) c.args.log.now keeps c.in-Some.place c.at-one.result.now c.self.invariant.apart (sym c.in-Some.ensures) c.at-one.ensures.value c.restart.new.self
    (subst (λ end. HasStartedAgain c.at-one.result.now end c.restart.new.self) c.in-Restarted.is c.in_ok-restart.ensures.restarted) c.as_slice.result.now (c.as_slice.ensures ∙ c.pending.ensures) c.meet_all.new.self
    c.in_ok-meet_all-in-Restarted.ensures.met c.new.result.items c.new.ensures.items

pub returns-in-Outside : goal.returns-in-Outside
returns-in-Outside c = λ w has keeps.
    refused_so w _ (subst (HasParts w.0) (sym c.self.view_is) has) c.args.log.now keeps c.in-Some.place c.at-one.result.now c.self.invariant.apart (sym c.in-Some.ensures) c.at-one.ensures.value c.in_ok-restart.field-0
    c.restart.new.self c.in_ok-restart.ensures.restarted c.in-Outside.is
