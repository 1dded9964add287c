use Rattle.world_laws.proofs.SessionLines.{call_lines_keep}
use Rattle.world_laws.proofs.SessionLinesSteps.{all_steps_keep, many_steps_keep}
use Rattle.world_laws.proofs.lines_of_calls_keep.Goals as goal

pub returns-clause-many : goal.returns-clause-many
returns-clause-many c = many_steps_keep

pub returns-clause-all : goal.returns-clause-all
returns-clause-all c = all_steps_keep

pub returns-clause-lines : goal.returns-clause-lines
returns-clause-lines c = call_lines_keep
