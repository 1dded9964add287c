use Rattle.world_laws.proofs.EachLine.{each_line_keeps}
use Rattle.calm_laws.proofs.NewestPut.{newest_are_put}
use Rattle.calm_laws.proofs.Received.{received_heads_left}
use Rattle.calm_laws.proofs.TakesAll.{calls_take_all}
use Rattle.calm_laws.proofs.calls_take_all.Goals as goal

pub returns-clause-received : goal.returns-clause-received
returns-clause-received c = received_heads_left each_line_keeps

pub returns-clause-newest : goal.returns-clause-newest
returns-clause-newest c = newest_are_put each_line_keeps

pub returns-clause-calls : goal.returns-clause-calls
returns-clause-calls c = calls_take_all each_line_keeps (newest_are_put each_line_keeps) (received_heads_left each_line_keeps)
