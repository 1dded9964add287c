use Rattle.stage_laws.proofs.Promised.{each_promises, promised_is_total, promised_keeps, promised_long_lines_stop}
use Rattle.stage_laws.proofs.laws.lines_are_promised.Goals as goal

pub returns-clause-promises : goal.returns-clause-promises
returns-clause-promises c = each_promises

pub returns-clause-keeps : goal.returns-clause-keeps
returns-clause-keeps c = promised_keeps

pub returns-clause-does : goal.returns-clause-does
returns-clause-does c = promised_is_total

pub returns-clause-stops : goal.returns-clause-stops
returns-clause-stops c = promised_long_lines_stop
