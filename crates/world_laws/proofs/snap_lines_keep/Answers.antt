use Rattle.world_laws.proofs.SnapLines as law
use Rattle.world_laws.proofs.snap_lines_keep.Goals as goal

pub returns-clause-lines : goal.returns-clause-lines
returns-clause-lines c = law.snap_lines_keep

pub returns-clause-snapshots : goal.returns-clause-snapshots
returns-clause-snapshots c = law.snapshots_keep
