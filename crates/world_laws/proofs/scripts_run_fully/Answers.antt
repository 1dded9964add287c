use Rattle.world_laws.proofs.FullLines as lines
use Rattle.world_laws.proofs.FullScripts as scripts
use Rattle.world_laws.proofs.scripts_run_fully.Goals as goal

pub returns-clause-lines : goal.returns-clause-lines
returns-clause-lines c = lines.full_lines

pub returns-clause-scripts : goal.returns-clause-scripts
returns-clause-scripts c = scripts.full_scripts

pub returns-clause-starts : goal.returns-clause-starts
returns-clause-starts c = scripts.full_starts
