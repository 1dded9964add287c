use Rattle.fs_tree.proofs.OwnOperations as own
use Rattle.fs_tree.proofs.laws.names_hang_on_names.Goals as goal

pub returns : goal.returns
returns c = own.names_hang_on_names
