use Rattle.world_laws.proofs.OneLines.{full_runs_are_unique, steps_are_deterministic}
use Rattle.world_laws.proofs.lines_are_deterministic.Goals as goal

pub returns-clause-lines : goal.returns-clause-lines
returns-clause-lines c = steps_are_deterministic

pub returns-clause-runs : goal.returns-clause-runs
returns-clause-runs c = full_runs_are_unique
