-- What holds of every tree that operations make from the root alone.
use Rattle.std.specs.Prelude.{◌≡◌, List, Some, true, is_some, ◌↔◌}
use Rattle.std.specs.FinMap.Entries.{find as value_at}
use Rattle.ivy_base.specs.declared.key.Key.{Key}
use Rattle.ivy_base.specs.declared.operation.Moment.{Moment}
use Rattle.ivy_base.specs.declared.operation.Op.{Op}
use Rattle.ivy_base.specs.Naming.{root_number}
use Rattle.tree_model.specs.Tree.{Tree, Place, place_cmp, inode_at, is_directory, is_inside, IsInside, IsInOrder}
use Rattle.tree_model.specs.Apply.{empty_tree, apply_all}

-- the name leads to the inode
abbrev pub Names : Tree → Place → Key → Type 0
Names t p x = value_at place_cmp p t.names ≡ Some x

-- a tree without contradictions
pub record IsSound (t : Tree) : Type 0 where
  pub order : IsInOrder t
  -- the root is a directory, and has no name
  pub root : is_directory (inode_at t root_number) ≡ true
  pub root_unnamed : (p : Place) → Names t p root_number → ⊥
  -- names stand in directories
  pub in_directories : (p : Place) (x : Key) → Names t p x → is_directory (inode_at t p.0) ≡ true
  -- and lead to inodes
  pub there : (p : Place) (x : Key) → Names t p x → is_some (inode_at t x) ≡ true
  -- a directory has one name at most
  pub once : (p q : Place) (x : Key) → is_directory (inode_at t x) ≡ true → Names t p x → Names t q x → p ≡ q
  -- no directory lies inside itself
  pub apart : (p : Place) (x : Key) → is_directory (inode_at t x) ≡ true → Names t p x → IsInside t.names x p.0 → ⊥

-- every list of operations makes such a tree
abbrev pub RecordsMakeSoundTrees : Type 0
RecordsMakeSoundTrees = (ops : List (Moment × Op)) → IsSound (apply_all empty_tree ops)

-- in such a tree the test of what is inside a directory says what the relation says
abbrev pub InsideIsExact : Type 0
InsideIsExact = (ops : List (Moment × Op)) (x dir : Key) → is_directory (inode_at (apply_all empty_tree ops) x) ≡ true
    → (is_inside (apply_all empty_tree ops) x dir ≡ true) ↔ IsInside (apply_all empty_tree ops).names dir x
