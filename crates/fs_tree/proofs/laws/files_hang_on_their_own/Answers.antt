use Rattle.fs_tree.proofs.OwnOperations as own
use Rattle.fs_tree.proofs.laws.files_hang_on_their_own.Goals as goal

pub returns : goal.returns
returns c = own.files_hang_on_their_own
