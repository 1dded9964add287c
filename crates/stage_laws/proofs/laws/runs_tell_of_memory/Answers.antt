use Rattle.stage_laws.proofs.FullRuns as runs
use Rattle.stage_laws.proofs.laws.runs_tell_of_memory.Goals as goal

pub returns : goal.returns
returns c = record { tell = runs.runs_tell_of_memory }
