use Rattle.world_laws.proofs.SnapCounts as counts
use Rattle.world_laws.proofs.snapshots_are_few.Goals as goal

pub returns : goal.returns
returns c = counts.snapshots_are_few
