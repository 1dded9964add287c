-- Where the turns aren't told, none is the newest of them.
use Rattle.std.proofs.Common.{None, Result, Ok, Err, refl}
use Rattle.ivy_base.specs.declared.operation.Moment.{Moment}
use Rattle.log_fetch.specs.declared.asked.Asked.{Asked}
use Rattle.log_fetch.specs.declared.refresh.Refresh.{Refresh}
use Rattle.log_fetch.specs.declared.turned.Turned.{Turned}
use Rattle.log_fetch.specs.declared.turned.TurnFault.{TurnFault}
use Rattle.ivy_agent.specs.Calls.{MadeThen}

pub untold : (refresh : Refresh) (asked : Asked) (now : Moment) (result : Result Turned TurnFault) → MadeThen None None refresh asked now result
untold refresh asked now (Ok turned) = refl
untold refresh asked now (Err fault) = refl
