-- The tree that the two lists are.
use Rattle.std.specs.Prelude.{List}
use Rattle.ivy_base.specs.declared.key.Key.{Key}
use Rattle.tree_model.specs.Tree.{Tree, Inode, Place}

abbrev pub tree_of : List (Place × Key) → List (Key × Inode) → Tree
tree_of names inodes = record { names = names; inodes = inodes }
