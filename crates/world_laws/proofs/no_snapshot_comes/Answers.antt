use Rattle.world_laws.proofs.NoSnapshotLines as lines
use Rattle.world_laws.proofs.NoSnapshotSaved as saved
use Rattle.world_laws.proofs.no_snapshot_comes.Goals as goal

pub returns-clause-saved : goal.returns-clause-saved
returns-clause-saved c = saved.turns_are_saved

pub returns-clause-lines : goal.returns-clause-lines
returns-clause-lines c = lines.no_snapshot_comes
