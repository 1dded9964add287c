use Rattle.snapshot_loading.proofs.OneBasis as law
use Rattle.snapshot_loading.proofs.snapshot_is_unique.Goals as goal

pub returns : goal.returns
returns c = law.snapshot_is_unique
