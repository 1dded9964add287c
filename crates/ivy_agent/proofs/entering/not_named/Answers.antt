use Rattle.std.proofs.Common.{◌∙◌}
use Rattle.std.specs.Prelude.{option_map}
use Rattle.agent_model.specs.Views.{is_refused_in}
use Rattle.ivy_agent.proofs.Floors.{none_refused, one_refused}
use Rattle.ivy_agent.proofs.entering.not_named.Goals as goal

pub returns-in_err-entry : goal.returns-in_err-entry
returns-in_err-entry c =
    c.from_residual.ensures ∙ none_refused (λ e. is_refused_in (option_map (λ v. v.now) c.args.before) c.args.view.now e.0) c.entries.result.now c.args.floor.now c.entries.ensures.entries c.in_err-entry.ensures

pub returns : goal.returns
returns c = one_refused (λ e. is_refused_in (option_map (λ v. v.now) c.args.before) c.args.view.now e.0) c.entries.result.now c.args.floor.now c.entries.ensures.entries c.in_ok-entry.entry.now c.in_ok-entry.ensures
