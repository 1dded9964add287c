use Rattle.snapshot_loading.proofs.OneForest as law
use Rattle.snapshot_loading.proofs.reads_are_forests.Goals as goal

pub returns-clause-read : goal.returns-clause-read
returns-clause-read c = law.read_is_forest

pub returns-clause-one : goal.returns-clause-one
returns-clause-one c = law.forest_is_unique
