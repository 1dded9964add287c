use Rattle.snapshot_loading.proofs.Canon as law
use Rattle.snapshot_loading.proofs.loaded_is_shown.Goals as goal

pub returns : goal.returns
returns c = law.loaded_is_shown
