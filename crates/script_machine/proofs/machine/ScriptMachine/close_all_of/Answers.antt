use Rattle.std.proofs.Common.{rules, filter, ap, ◌∙◌}
use Rattle.std.specs.Prelude.{not}
use Rattle.std.specs.Str.{bytes_eq}
use Rattle.std.proofs.lemmas.Fn.{filter_same}
use Rattle.script_machine.specs.WorldState.{OpenState, WorldState}
use Rattle.script_machine.proofs.machine.ScriptMachine.close_all_of.Goals as goal

pub returns-clause-sessions : goal.returns-clause-sessions
returns-clause-sessions c =
    filter_same _ (λ (o : OpenState). not (bytes_eq o.by c.args.log.now)) _ (λ x b f' k. search rules) _ _ c.retain.ensures.filtered
    ∙ ap (λ (s : WorldState). filter (λ (o : OpenState). not (bytes_eq o.by c.args.log.now)) s.sessions) c.self.view_is
