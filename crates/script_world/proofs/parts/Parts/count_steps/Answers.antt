use Rattle.std.proofs.Common.{List, set, sym, ◌∙◌, subst}
use Rattle.std.specs.Prelude.{OnOk}
use Rattle.script_participants.specs.ParticipantState.{ParticipantState}
use Rattle.script_world.specs.contracts.parts.Parts.{the_view}
use Rattle.script_world.specs.PartsState.{PartsState}
use Rattle.script_world.specs.Running.{HasConfigurationIn, StepsOnIn}
use Rattle.script_world.proofs.Going.{not_nobody, steps_kept, steps_lead, some_configuration, then_kept, then_so}
use Rattle.script_world.proofs.parts.Parts.count_steps.Goals as goal

pub unreachable-requires : goal.unreachable-requires
unreachable-requires g c = not_nobody _ c.args.name.now c.args.call.now (subst (λ (s : PartsState). HasConfigurationIn s c.args.name.now c.args.call.now) (sym c.self.view_is) c.requires.configuration) (sym c.place_of.ensures ∙ c.in_default.is)

pub step_on-went-requires : goal.step_on-went-requires
step_on-went-requires g c =
    some_configuration (the_view c.self.inside) c.args.name.now c.args.call.now c.in-Some.place c.at-who.result.now (sym c.place_of.ensures ∙ c.in-Some.is) c.at-who.ensures.value
    (subst (λ (s : PartsState). HasConfigurationIn s c.args.name.now c.args.call.now) (sym c.self.view_is) c.requires.configuration)

pub invariant_of-self : goal.invariant_of-self
invariant_of-self g c =
    then_kept (set c.self.inside.participants c.in-Some.place c.step_on-went.new.who) c.end_steps.new.participants c.step_on-went.result c.end_steps.result c.self.inside.replicas c.self.inside.participants c.self.invariant c.end_steps.ensures.same
    c.step_on-went.ensures c.end_steps.ensures.kept c.end_steps.ensures.nobody
    (λ went. steps_kept (the_view c.self.inside) c.args.name.now c.args.call.now c.in-Some.place c.at-who.result.now (sym c.place_of.ensures ∙ c.in-Some.is) c.at-who.ensures.value
    c.step_on-went.new.self c.step_on-went.new.nodes c.step_on-went.new.who c.step_on-went.new.met c.args.count went (subst (λ (s : PartsState). HasConfigurationIn s c.args.name.now c.args.call.now) (sym c.self.view_is) c.requires.configuration) c.self.invariant)

pub returns : goal.returns
returns g c =
    subst (λ (s : PartsState). OnOk c.end_steps.result (StepsOnIn c.args.name.now s c.args.call.now (record (the_view c.self.inside) { nodes = c.step_on-went.new.nodes; participants = c.end_steps.new.participants; met = c.step_on-went.new.met }) c.step_on-went.new.self c.args.count)) c.self.view_is
    (then_so (set c.self.inside.participants c.in-Some.place c.step_on-went.new.who) c.end_steps.new.participants c.step_on-went.result c.end_steps.result
    (λ (ps : List ParticipantState). StepsOnIn c.args.name.now (the_view c.self.inside) c.args.call.now (record (the_view c.self.inside) { nodes = c.step_on-went.new.nodes; participants = ps; met = c.step_on-went.new.met }) c.step_on-went.new.self c.args.count)
    c.end_steps.ensures.same c.step_on-went.ensures c.end_steps.ensures.kept
    (λ went. steps_lead (the_view c.self.inside) c.args.name.now c.args.call.now c.in-Some.place c.at-who.result.now (sym c.place_of.ensures ∙ c.in-Some.is) c.at-who.ensures.value
    c.step_on-went.new.self c.step_on-went.new.nodes c.step_on-went.new.who c.step_on-went.new.met c.args.count went c.self.invariant.apart))
