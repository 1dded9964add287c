use Rattle.snapshot_loading.proofs.LoadedEnds as law
use Rattle.snapshot_loading.proofs.loading_ends.Goals as goal

pub returns : goal.returns
returns c = law.loading_ends
