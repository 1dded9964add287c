use Rattle.snapshot_model.proofs.Loaded as law
use Rattle.snapshot_model.proofs.loaded_is_made.Goals as goal

pub returns : goal.returns
returns c = law.loaded_is_made
