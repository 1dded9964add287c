-- What holds of the names and the contents that are kept.
use Rattle.std.specs.Prelude.{◌≡◌, List}
use Rattle.ivy_base.specs.declared.key.Key.{Key}
use Rattle.tree_model.specs.Tree.{Tree, Inode}
use Rattle.tree_model.specs.Sound.{IsSound}
use Rattle.dir_replay.specs.Bare.{bare}
use Rattle.fs_tree.specs.View.{tree_of}

-- they stand for a sound tree, and both have the same inodes, of the same kinds
pub record IsTied (names : Tree) (contents : List (Key × Inode)) : Type 0 where
  pub sound : IsSound (tree_of names contents)
  pub same : bare (tree_of names contents) ≡ names
