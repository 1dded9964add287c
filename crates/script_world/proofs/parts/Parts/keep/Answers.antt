use Rattle.std.proofs.Common.{◌≡◌, true, nat_lt, sym, ap, subst, rules}
use Rattle.script_participants.specs.ParticipantState.{ParticipantState}
use Rattle.script_world.specs.PartsState.{HasParts}
use Rattle.script_world.proofs.Keeping.{keeps_fault, nobody_keeps}
use Rattle.script_world.proofs.Kept.{kept_changed}
use Rattle.script_world.proofs.parts.Parts.keep.Goals as goal

pub returns-in_default : goal.returns-in_default
returns-in_default c = λ w has. nobody_keeps w _ (subst (HasParts w) (sym c.self.view_is) has) c.args.log.now c.args.count c.args.new (sym c.in_default.ensures)

pub invariant_of-self-2 : goal.invariant_of-self-2
invariant_of-self-2 c =
    kept_changed c.self.inside.replicas c.self.inside.participants c.in-Some.place c.at.result.now c.plan_fault.new.self c.self.invariant c.at.ensures.value (ap (λ (p : ParticipantState). p.name) c.in_ok-plan_fault.ensures.planned)

pub returns : goal.returns
returns c = λ w has.
    let some : nat_lt 0 c.args.count ≡ true = search rules in
    keeps_fault w _ (subst (HasParts w) (sym c.self.view_is) has) c.args.log.now c.args.count c.in-Some.place c.args.new c.at.result.now c.plan_fault.new.self c.new.result.items c.self.invariant.apart some
    (sym c.in-Some.ensures) c.at.ensures.value c.in_ok-plan_fault.ensures.planned c.new.ensures.items
