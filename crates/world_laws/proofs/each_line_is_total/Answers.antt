use Rattle.world_laws.proofs.EachLine.{each_line_keeps}
use Rattle.world_laws.proofs.Existing.{each_line_is_total, each_script_has_a_run}
use Rattle.world_laws.proofs.ExistingSessions.{each_session_ends}
use Rattle.world_laws.proofs.each_line_is_total.Goals as goal

pub returns-clause-sessions : goal.returns-clause-sessions
returns-clause-sessions c = each_session_ends

pub returns-clause-lines : goal.returns-clause-lines
returns-clause-lines c = each_line_is_total

pub returns-clause-scripts : goal.returns-clause-scripts
returns-clause-scripts c = each_script_has_a_run each_line_keeps
