use Rattle.rpc_wire.proofs.Calls.{is_nobody, by_system}
use Rattle.rpc_wire.proofs.call.caller_of.Goals as goal

pub returns-in-0-clause-caller : goal.returns-in-0-clause-caller
returns-in-0-clause-caller c = is_nobody _ c.in-0.is

pub returns-in-1-clause-caller : goal.returns-in-1-clause-caller
returns-in-1-clause-caller c = by_system _ c.read_system.result c.in-1.is c.read_system.ensures.caller
