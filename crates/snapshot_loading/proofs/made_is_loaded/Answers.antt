use Rattle.snapshot_loading.proofs.Followed as law
use Rattle.snapshot_loading.proofs.made_is_loaded.Goals as goal

pub returns : goal.returns
returns c = law.made_is_loaded
