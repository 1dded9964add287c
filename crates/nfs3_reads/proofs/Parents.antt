-- The names of a tree know of a directory which one names it.
use Rattle.std.proofs.Common.{◌≡◌, Bool, true, Option, None, refl}
use Rattle.std.specs.Prelude.{if◌then◌else◌}
use Rattle.ivy_base.specs.declared.key.Key.{Key}
use Rattle.tree_model.specs.Tree.{Tree, inode_at, is_directory, parent}
use Rattle.dir_replay.specs.Bare.{bare}
use Rattle.dir_replay.proofs.Bare.{is_directory-bare}

by_test : (b : Bool) (above : Option Key) → b ≡ true → (if b then above else None) ≡ above
by_test b above h = rw h refl

pub parent_of_names : (t names : Tree) (dir : Key) → names ≡ bare t → is_directory (inode_at t dir) ≡ true → (if is_directory (inode_at names dir) then parent names dir else None) ≡ parent t dir
parent_of_names t names dir e h = rw e (by_test (is_directory (inode_at (bare t) dir)) (parent t dir) (rw (is_directory-bare t dir) h))
