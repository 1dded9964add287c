use Rattle.script_machine.proofs.Taking.{promised_of}
use Rattle.script_machine.proofs.machine.ScriptMachineMachine.take.Goals as goal

pub returns : goal.returns
returns c = promised_of c.take_line.result c.args.self.now c.take_line.new.self c.args.line.now c.take_line.ensures
