use Rattle.snapshot_loading.proofs.Lists as law
use Rattle.snapshot_loading.proofs.even_lists_are_lists.Goals as goal

pub returns : goal.returns
returns c = law.even_lists_are_lists
