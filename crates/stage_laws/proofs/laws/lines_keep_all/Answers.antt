use Rattle.stage_laws.proofs.Lines as lines
use Rattle.stage_laws.proofs.laws.lines_keep_all.Goals as goal

pub returns-clause-begins : goal.returns-clause-begins
returns-clause-begins c = lines.first_keeps_all

pub returns-clause-keeps : goal.returns-clause-keeps
returns-clause-keeps c = lines.lines_keep_all

pub returns-clause-does : goal.returns-clause-does
returns-clause-does c = lines.lines_are_total

pub returns-clause-stops : goal.returns-clause-stops
returns-clause-stops c = lines.long_lines_stop
