use Rattle.std.proofs.Common.{Some, sym, ◌∙◌}
use Rattle.world_laws.proofs.LineFits.{command_fits}
use Rattle.script_machine.proofs.Taking.{taken_of}
use Rattle.script_machine.proofs.machine.ScriptMachine.take_line.Goals as goal

pub take_command-taken-requires-clause-fits : goal.take_command-taken-requires-clause-fits
take_command-taken-requires-clause-fits c = command_fits c.args.line.now c.in-Some.command (sym c.in_ok-command.ensures ∙ c.in-Some.is)

pub returns-in-Some : goal.returns-in-Some
returns-in-Some c = taken_of c.take_command-taken.result c.args.self.now c.take_command-taken.new.self c.args.line.now (Some c.in-Some.command) (sym c.in-Some.is ∙ c.in_ok-command.ensures) c.take_command-taken.ensures
