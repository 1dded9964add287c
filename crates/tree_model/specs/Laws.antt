-- What the smallest replays make.
use Rattle.std.specs.Prelude.{◌≡◌, ℕ, List, [], ◌∷◌, Some, None, true, false}
use Rattle.ivy_base.specs.declared.key.Key.{Key}
use Rattle.ivy_base.specs.declared.operation.Kind.TheVariants.{Dir}
use Rattle.ivy_base.specs.declared.operation.Moment.{Moment}
use Rattle.ivy_base.specs.declared.operation.Op.{Op}
use Rattle.ivy_base.specs.declared.operation.Op.TheVariants as op
use Rattle.ivy_base.specs.Naming.{root_number}
use Rattle.tree_model.specs.Tree.{Tree, entry, inode_at, is_directory, has_name, is_inside, same_key}
use Rattle.tree_model.specs.Apply.{apply_all}

-- in the directory a new one may be made under the name
pub record MayBeMade (t : Tree) (dir : Key) (name : List ℕ) (number : Key) : Type 0 where
  pub fresh : inode_at t number ≡ None
  pub directory : is_directory (inode_at t dir) ≡ true
  pub free : entry t dir name ≡ None
  pub no_root : same_key number root_number ≡ false
  pub unnamed : has_name t number ≡ false
  pub apart : is_inside t dir number ≡ false

-- the two operations that make a directory
abbrev pub made_directory : Moment → Key → Key → List ℕ → ℕ → ℕ → ℕ → List (Moment × Op)
made_directory now number dir name mode uid gid = (now, op.Inode number Dir mode uid gid []) ∷ (now, op.Link dir name number) ∷ []

-- after them the name leads to the directory
abbrev pub MakesName : Type 0
MakesName = (t : Tree) (now : Moment) (dir : Key) (name : List ℕ) (number : Key) (mode uid gid : ℕ) → MayBeMade t dir name number
    → entry (apply_all t (made_directory now number dir name mode uid gid)) dir name ≡ Some number
