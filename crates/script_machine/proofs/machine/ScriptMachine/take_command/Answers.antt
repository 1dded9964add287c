use Rattle.script_machine.proofs.Taking.{limit_not_met}
use Rattle.script_machine.proofs.machine.ScriptMachine.take_command.Goals as goal

pub returns : goal.returns
returns c = limit_not_met c.args.command.now c.args.self.now c.obey.new.self c.meets_limit.result c.obey.result c.if-meets_limit.false c.meets_limit.ensures c.obey.ensures
