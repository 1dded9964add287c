use Rattle.std.proofs.Common.{◌≡◌, ◌∙◌, rules, None, Option, refl, sym, subst}
use Rattle.std.specs.Prelude.{IfSome, IsSomeAnd}
use Rattle.ivy_base.specs.declared.key.Key.{Key}
use Rattle.log_model.specs.View.{View}
use Rattle.script_participants.specs.Snapping.{HasSnapped}
use Rattle.script_world.specs.PartsState.{HasParts}
use Rattle.script_world.proofs.Kept.{kept_changed}
use Rattle.script_world.proofs.Snapped.{fails_so, makes_so, named_still, nobody_snaps, stays_outside}
use Rattle.script_world.proofs.parts.Parts.begin_snap.Goals as goal

pub returns-in_default : goal.returns-in_default
returns-in_default c = λ w has judged. nobody_snaps w _ (subst (HasParts w.0) (sym c.self.view_is) has) c.args.log.now judged (sym c.in_default.ensures)

pub returns-then-is_none : goal.returns-then-is_none
returns-then-is_none c = λ w has judged.
    let none : c.at-one.result.now.agent.view ≡ None = search rules in
    stays_outside w _ (subst (HasParts w.0) (sym c.self.view_is) has) c.args.log.now c.in-Some.place c.at-one.result.now c.self.invariant.apart (sym c.in-Some.ensures) c.at-one.ensures.value judged none

pub invariant_of-self-in_err-meet_all-in-Some-2 : goal.invariant_of-self-in_err-meet_all-in-Some-2
invariant_of-self-in_err-meet_all-in-Some-2 c =
    let some : IsSomeAnd c.at-one.result.now.agent.view (λ (view : View). Unit {0}) = search rules in
    kept_changed c.self.inside.replicas c.self.inside.participants c.in-Some.place c.at-one.result.now c.snap.new.self c.self.invariant c.at-one.ensures.value
    (named_still c.at-one.result.now c.snap.new.self c.at-one.result.now.agent.view c.in_ok-root.field-0 some c.in_ok-root.ensures.snapped)

pub invariant_of-self-in-Some-2 : goal.invariant_of-self-in-Some-2
invariant_of-self-in-Some-2 c =
    let some : IsSomeAnd c.at-one.result.now.agent.view (λ (view : View). Unit {0}) = search rules in
    kept_changed c.self.inside.replicas c.self.inside.participants c.in-Some.place c.at-one.result.now c.snap.new.self c.self.invariant c.at-one.ensures.value
    (named_still c.at-one.result.now c.snap.new.self c.at-one.result.now.agent.view c.in_ok-root.field-0 some c.in_ok-root.ensures.snapped)

pub invariant_of-self-in-None : goal.invariant_of-self-in-None
invariant_of-self-in-None c =
    let some : IsSomeAnd c.at-one.result.now.agent.view (λ (view : View). Unit {0}) = search rules in
    kept_changed c.self.inside.replicas c.self.inside.participants c.in-Some.place c.at-one.result.now c.snap.new.self c.self.invariant c.at-one.ensures.value
    (named_still c.at-one.result.now c.snap.new.self c.at-one.result.now.agent.view c.in_ok-root.field-0 some c.in_ok-root.ensures.snapped)

pub returns-in_ok-meet_all-in-Some-2 : goal.returns-in_ok-meet_all-in-Some-2
returns-in_ok-meet_all-in-Some-2 c = λ w has.
    let some : IsSomeAnd c.at-one.result.now.agent.view (λ (view : View). Unit {0}) = search rules in
    makes_so w _ (subst (HasParts w.0) (sym c.self.view_is) has) c.args.log.now c.in-Some.place c.at-one.result.now c.self.invariant.apart (sym c.in-Some.ensures) c.at-one.ensures.value c.at-one.result.now.agent.view refl some c.snap.new.self c.in-Some-2.root
    (subst (λ (root : Option Key). IfSome c.at-one.result.now.agent.view (λ (view : View). HasSnapped view c.at-one.result.now root c.snap.new.self)) c.in-Some-2.is c.in_ok-root.ensures.snapped)
    c.as_slice.result.now (c.as_slice.ensures ∙ c.pending.ensures) c.meet_all.new.self c.in_ok-meet_all-in-Some-2.ensures.met

pub returns-in-None : goal.returns-in-None
returns-in-None c = λ w has judged.
    let some : IsSomeAnd c.at-one.result.now.agent.view (λ (view : View). Unit {0}) = search rules in
    fails_so w _ (subst (HasParts w.0) (sym c.self.view_is) has) c.args.log.now c.in-Some.place c.at-one.result.now c.self.invariant.apart (sym c.in-Some.ensures) c.at-one.ensures.value c.at-one.result.now.agent.view refl some c.snap.new.self
    (subst (λ (root : Option Key). IfSome c.at-one.result.now.agent.view (λ (view : View). HasSnapped view c.at-one.result.now root c.snap.new.self)) c.in-None.is c.in_ok-root.ensures.snapped)
    judged
