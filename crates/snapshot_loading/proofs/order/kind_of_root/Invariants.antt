use Rattle.std.proofs.Common.{◌≡◌, drop}
use Rattle.ivy_base.specs.Naming.{root_number}
use Rattle.tree_model.specs.Tree.{inode_at}
use Rattle.snapshot_loading.specs.Parts.{tree_of}
use Rattle.snapshot_loading.proofs.order.kind_of_root.Given as goal

abbrev pub invariant-parts : goal.invariant-parts
invariant-parts l = inode_at (tree_of l.parts) root_number ≡ inode_at (tree_of (drop l.part-index l.parts)) root_number
