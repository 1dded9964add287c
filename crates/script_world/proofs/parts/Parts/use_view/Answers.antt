use Rattle.std.proofs.Common.{Some, sym, ap, ◌∙◌, subst}
use Rattle.log_model.specs.View.{View}
use Rattle.script_world.specs.PartsState.{HasParts}
use Rattle.script_world.proofs.Kept.{kept_changed}
use Rattle.script_world.proofs.Using.{enters_in, name_stays, nobody_enters}
use Rattle.script_world.proofs.parts.Parts.use_view.Goals as goal

pub returns-in_default : goal.returns-in_default
returns-in_default c = λ w has. nobody_enters w _ (subst (HasParts w.0) (sym c.self.view_is) has) c.args.log.now c.args.named.now (sym c.in_default.ensures)

pub invariant_of-self-2 : goal.invariant_of-self-2
invariant_of-self-2 c =
    kept_changed c.self.inside.replicas c.self.inside.participants c.in-Some.place c.at.result.now c.enter.new.self c.self.invariant c.at.ensures.value
    (name_stays c.at.result.now c.enter.new.self c.in_ok-view.view c.in_ok-end.end c.in_ok-end.ensures.entered)

pub returns : goal.returns
returns c =
    enters_in c.args.self.now _ c.self.view_is c.args.log.now c.args.named.now c.in-Some.place c.at.result.now c.enter.new.self c.in_ok-view.view c.in_ok-end.end c.taken_of.result c.self.invariant.apart
    (sym c.in-Some.ensures) c.at.ensures.value (λ w has. ap (λ (v : View). Some v) c.in_ok-view.ensures ∙ c.in-Some-view_named.ensures w has) c.in_ok-end.ensures.entered c.taken_of.ensures
