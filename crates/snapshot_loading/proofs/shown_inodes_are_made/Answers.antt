use Rattle.snapshot_loading.proofs.ShownInodes as law
use Rattle.snapshot_loading.proofs.shown_inodes_are_made.Goals as goal

pub returns : goal.returns
returns c = law.shown_inodes_are_made
