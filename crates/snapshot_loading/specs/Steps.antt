-- A tree on its way from the root alone.
use Rattle.std.specs.Prelude.{◌≡◌, ℕ, Bool, true, false, List, [], ◌++◌, Option, Some, None, option_map, if◌then◌else◌}
use Rattle.std.specs.List.{AllByRecursion}
use Rattle.std.specs.Cmp.Lexicographic.{slice_cmp}
use Rattle.std.specs.Ordering.{nat_cmp}
use Rattle.std.specs.FinMap.Entries.{is_sorted}
use Rattle.ivy_base.specs.declared.key.Key.{Key}
use Rattle.ivy_base.specs.declared.operation.Kind.{Kind}
use Rattle.ivy_base.specs.declared.operation.Kind.TheVariants.{Reg, Dir, Lnk}
use Rattle.ivy_base.specs.declared.operation.Moment.{Moment}
use Rattle.ivy_base.specs.declared.operation.Change.{Change}
use Rattle.ivy_base.specs.declared.operation.Op.{Op}
use Rattle.ivy_base.specs.declared.operation.Op.TheVariants as op
use Rattle.ivy_base.specs.Naming.{root_number}
use Rattle.tree_model.specs.Tree.{Tree, Inode, Place, inode_at, same_key}
use Rattle.tree_model.specs.Apply.{empty_tree, apply_all}
use Rattle.tree_model.specs.Sound.{IsSound}
use Rattle.inode_replay.specs.declared.attr.Attr.{Attr}
use Rattle.inode_replay.specs.Kept.{Kept, made_kept}
use Rattle.snapshot_loading.specs.declared.parts.InodeParts.{InodeParts}
use Rattle.snapshot_loading.specs.Parts.{inode_of, tree_of}

-- the names of each directory ascend
abbrev pub NamesAscend : List InodeParts → Type 0
NamesAscend parts = AllByRecursion (λ p. is_sorted (slice_cmp nat_cmp) p.entries.items ≡ true) parts

abbrev pub beginning : Moment
beginning = record { sec = 0; nsec = 0 }

-- operations make it of the root alone
abbrev pub IsMade : Tree → Type 0
IsMade t = (ops : List (Moment × Op)) × (t ≡ apply_all empty_tree ops)

-- an inode's kind and bytes
abbrev pub sort : Inode → Kind × List ℕ
sort i = (i.kind, i.body)

abbrev pub sort_at : Tree → Key → Option (Kind × List ℕ)
sort_at t k = option_map sort (inode_at t k)

abbrev pub kind_at : Tree → Key → Option Kind
kind_at t k = option_map (λ i. i.kind) (inode_at t k)

-- ---- inodes

-- what an inode has before it is written
abbrev pub first_body : Kind → List ℕ → List ℕ
first_body Reg body = []
first_body Dir body = []
first_body Lnk body = body

abbrev pub first_sort : Inode → Kind × List ℕ
first_sort i = (i.kind, first_body i.kind i.body)

-- these inodes and the root were added, without names
pub record AreAdded (parts : List InodeParts) (t : Tree) : Type 0 where
  pub made : IsMade t
  pub no_names : t.names ≡ []
  pub each : (k : Key) → sort_at t k
      ≡ (if same_key k root_number then Some (Dir, []) else option_map first_sort (inode_at (tree_of parts) k))

-- ---- names

-- All these names were given, and the inodes kept their kinds and bytes. Or one couldn't be given: no tree without contradictions, of
-- inodes of these kinds, begins with the names that were there and these.
abbrev pub Links : List (Place × Key) → Tree → Tree → Bool → Type 0
Links names old new true = IsMade new × (new.names ≡ old.names ++ names) × ((k : Key) → sort_at new k ≡ sort_at old k)
Links names old new false = (t : Tree) (rest : List (Place × Key)) → ((k : Key) → kind_at old k ≡ kind_at t k)
    → t.names ≡ (old.names ++ names) ++ rest → IsSound t → ⊥

-- ---- contents

abbrev pub change_of : Attr → Change
change_of a = record { mode = Some a.mode; uid = Some a.uid; gid = Some a.gid; size = None; atime = Some a.atime; mtime = Some a.mtime }

-- the content of the inode that was only just added
abbrev pub IsBegun : InodeParts → Kept → Type 0
IsBegun p k = made_kept beginning (op.Inode p.number p.kind 0 0 0 (first_body p.kind p.body)) ≡ Some k

-- the inode was added
abbrev pub Awaits : InodeParts → Tree → Type 0
Awaits p t = sort_at t p.number ≡ Some (first_sort (inode_of p))

abbrev pub AwaitsAll : List InodeParts → Tree → Type 0
AwaitsAll parts t = (k : Key) → sort_at t k ≡ option_map first_sort (inode_at (tree_of parts) k)

-- it is as it is to be, and all else is as it was
pub record Settles (p : InodeParts) (old new : Tree) : Type 0 where
  pub sound : IsSound old → IsSound new
  pub names : new.names ≡ old.names
  pub each : (k : Key) → inode_at new k ≡ (if same_key k p.number then Some (inode_of p) else inode_at old k)

-- all are
pub record AreSettled (parts : List InodeParts) (old new : Tree) : Type 0 where
  pub sound : IsSound old → IsSound new
  pub names : new.names ≡ old.names
  pub each : (k : Key) → inode_at new k ≡ inode_at (tree_of parts) k
