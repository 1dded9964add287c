-- The tree that a set of logs stands for: two finite maps, from (directory, name) to an inode's number
-- and from a number to what the inode is. Both are kept as lists in ascending order of their keys.
use Rattle.std.specs.Prelude.{◌≡◌, ℕ, zero, suc, ◌+◌, Bool, true, false, ◌&&◌, ◌||◌, not, IsTrue, List, length, Option, Some, None}
use Rattle.std.specs.Prelude.{option_map, count_by, find, filter, map, filter_map, if◌then◌else◌}
use Rattle.std.specs.List.{list_any, list_all}
use Rattle.std.specs.declared.cmp.Ordering.{Ordering}
use Rattle.std.specs.Cmp.Lexicographic.{slice_cmp}
use Rattle.std.specs.Ordering.{nat_cmp, ordering_then, eq_by_cmp}
use Rattle.std.specs.FinMap.Entries.{find as value_at, is_sorted}
use Rattle.ivy_base.specs.declared.key.Key.{Key}
use Rattle.ivy_base.specs.declared.operation.Kind.{Kind}
use Rattle.ivy_base.specs.declared.operation.Kind.TheVariants.{Reg, Dir, Lnk}
use Rattle.ivy_base.specs.declared.operation.Moment.{Moment}
use Rattle.ivy_base.specs.Naming.{key_cmp, root_number}

pub record Attributes : Type 0 where
  pub mode : ℕ
  pub uid : ℕ
  pub gid : ℕ
  pub atime : Moment
  pub mtime : Moment
  pub ctime : Moment

-- body: the bytes of a regular file, the target of a symbolic link, and nothing for a directory
pub record Inode : Type 0 where
  pub kind : Kind
  pub attributes : Attributes
  pub body : List ℕ

-- the most bytes of a file
abbrev pub longest_file : ℕ
longest_file = 16777216

-- a directory, and a name in it
abbrev pub Place : Type 0
Place = Key × List ℕ

abbrev pub place_cmp : Place → Place → Ordering
place_cmp p q = ordering_then (key_cmp p.0 q.0) (slice_cmp nat_cmp p.1 q.1)

abbrev pub directory_kind : Kind → Bool
directory_kind Reg = false
directory_kind Dir = true
directory_kind Lnk = false

abbrev pub file_kind : Kind → Bool
file_kind Reg = true
file_kind Dir = false
file_kind Lnk = false

pub record Tree : Type 0 where
  pub names : List (Place × Key)
  pub inodes : List (Key × Inode)

-- each place and each number stands once, in ascending order
pub record IsInOrder (t : Tree) : Type 0 where
  pub names : IsTrue (is_sorted place_cmp t.names)
  pub inodes : IsTrue (is_sorted key_cmp t.inodes)

-- ---- what a tree shows

abbrev pub same_key : Key → Key → Bool
same_key a b = eq_by_cmp key_cmp a b

abbrev pub inode_at : Tree → Key → Option Inode
inode_at t number = value_at key_cmp number t.inodes

-- the inode that the directory has under the name
abbrev pub entry : Tree → Key → List ℕ → Option Key
entry t dir name = value_at place_cmp (dir, name) t.names

abbrev pub is_directory : Option Inode → Bool
is_directory None = false
is_directory (Some i) = directory_kind i.kind

abbrev pub is_file : Option Inode → Bool
is_file None = false
is_file (Some i) = file_kind i.kind

-- the names that an inode has
abbrev pub has_name : Tree → Key → Bool
has_name t number = list_any (λ e. same_key number e.1) t.names

abbrev pub name_count : Tree → Key → ℕ
name_count t number = count_by (λ e. same_key number e.1) t.names

-- an inode is live where it is the root or has a name
abbrev pub is_live : Tree → Key → Bool
is_live t number = same_key number root_number || has_name t number

-- what a directory contains: the names with their inodes, by the names' bytes
abbrev pub listing : Tree → Key → List (List ℕ × Key)
listing t dir = filter_map (λ e. if same_key dir e.0.0 then Some (e.0.1, e.1) else None) t.names

abbrev pub is_empty_directory : Tree → Key → Bool
is_empty_directory t dir = not (list_any (λ e. same_key dir e.0.0) t.names)

abbrev pub subdirectory_count : Tree → Key → ℕ
subdirectory_count t dir = count_by (λ e. same_key dir e.0.0 && is_directory (inode_at t e.1)) t.names

-- the links of a directory: its own two and one for each subdirectory; of others the names
abbrev pub link_count : Tree → Key → ℕ
link_count t number = if is_directory (inode_at t number) then 2 + subdirectory_count t number else name_count t number

-- the directory that names this one
abbrev pub parent_in : List (Place × Key) → Key → Option Key
parent_in names dir = option_map (λ e. e.0.0) (find (λ e. same_key dir e.1) names)

abbrev pub parent : Tree → Key → Option Key
parent t dir = parent_in t.names dir

-- the directories that name x
abbrev pub parents_in : List (Place × Key) → Key → List Key
parents_in names x = map (λ e. e.0.0) (filter (λ e. same_key x e.1) names)

-- going up from x ends, after at most so many directories, and doesn't meet dir
abbrev pub ends_without : ℕ → List (Place × Key) → Key → Key → Bool
ends_without zero names x dir = false
ends_without (suc n) names x dir =
    not (same_key x dir) && list_all (λ above. ends_without n names above dir) (parents_in names x)

-- x is the directory or lies inside it
abbrev pub is_inside : Tree → Key → Key → Bool
is_inside t x dir = not (ends_without (suc (length t.names)) t.names x dir)

-- the same as a relation: x is the directory, or is named in what is inside it
pub data IsInside (names : List (Place × Key)) (dir : Key) : Key → Type 0 where
  itself : IsInside names dir dir
  named : {x : Key} (above : Key) (name : List ℕ) → value_at place_cmp (above, name) names ≡ Some x → IsInside names dir above
      → IsInside names dir x
