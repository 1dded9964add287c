use Rattle.snapshot_model.proofs.OneNames as law
use Rattle.snapshot_model.proofs.names_are_unique.Goals as goal

pub returns : goal.returns
returns c = law.names_are_unique
