use Rattle.world_laws.proofs.LogLines.{log_lines_keep}
use Rattle.world_laws.proofs.RestartLines.{restart_lines_keep}
use Rattle.world_laws.proofs.UseLines.{use_lines_keep}
use Rattle.world_laws.proofs.lines_of_participants_keep.Goals as goal

pub returns-clause-begins : goal.returns-clause-begins
returns-clause-begins c = log_lines_keep

pub returns-clause-enters : goal.returns-clause-enters
returns-clause-enters c = use_lines_keep

pub returns-clause-restarts : goal.returns-clause-restarts
returns-clause-restarts c = restart_lines_keep
