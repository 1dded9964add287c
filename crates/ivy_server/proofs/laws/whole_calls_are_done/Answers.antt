use Rattle.ivy_server.proofs.WholeCalls.{whole_calls_are_done}
use Rattle.ivy_server.proofs.laws.whole_calls_are_done.Goals as goal

pub returns : goal.returns
returns g c = whole_calls_are_done _ g.C.Clock.gives
