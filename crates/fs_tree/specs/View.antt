-- The tree that the names and the contents stand for.
use Rattle.std.specs.Prelude.{List}
use Rattle.ivy_base.specs.declared.key.Key.{Key}
use Rattle.tree_model.specs.Tree.{Tree, Inode}

-- the names of the one, and the other's inodes
abbrev pub tree_of : Tree → List (Key × Inode) → Tree
tree_of names contents = record { names = names.names; inodes = contents }
