-- The blocks of a snapshot one by one: what each says, how it is spelled, and within which bounds (this project's own form; numbers and
-- opaque data as in XDR).
use Rattle.std.specs.Prelude.{◌≡◌, ℕ, ◌<◌, ◌≤◌, IsTrue, List, ◌∷◌, ◌++◌, length, Option, IfSome, []}
use Rattle.std.specs.List.{AllByRecursion}
use Rattle.std.specs.Cmp.Lexicographic.{slice_cmp}
use Rattle.std.specs.Ordering.{nat_cmp}
use Rattle.std.specs.FinMap.Entries.{is_sorted}
use Rattle.ivy_base.specs.declared.key.Key.{Key}
use Rattle.ivy_base.specs.declared.operation.Kind.{Kind}
use Rattle.ivy_base.specs.declared.operation.Kind.TheVariants.{Reg, Dir, Lnk}
use Rattle.ivy_base.specs.Naming.{IsFileName, key_cmp}
use Rattle.tree_model.specs.Tree.{Attributes, longest_file}
use Rattle.wire_model.specs.Xdr.{word, double_word, opaque, optional, array, moment}
use Rattle.log_model.specs.Rank.{Rank}
use Rattle.log_model.specs.Spelling.{IsBlock, IsKey, IsMode, IsMoment, IsTarget, kind_number, no_name, vector_entry}
use Rattle.log_model.specs.Vector.{Entry, Vector}

-- ---- what blocks say

-- a list as it is named: how many levels of list blocks it has, and the topmost one's name. An empty list has no level and no name
pub record NamedList : Type 0 where
  pub level : ℕ
  pub top : Key

-- an inode: its size where it is a file, its text where it is a link, and the list of its pieces or entries
pub record InodeBlock : Type 0 where
  pub number : Key
  pub kind : Kind
  pub attributes : Attributes
  pub size : ℕ
  pub target : List ℕ
  pub items : NamedList

-- the whole: the view's name, what it covers, and the list of all inodes
pub record RootBlock : Type 0 where
  pub view : Key
  pub front : Vector
  pub tide : Option Rank
  pub inodes : NamedList

-- ---- spellings

abbrev pub listed_bytes : NamedList → List ℕ
listed_bytes l = word l.level ++ l.top.0

abbrev pub attributes_bytes : Attributes → List ℕ
attributes_bytes a = word a.mode ++ word a.uid ++ word a.gid ++ moment a.atime ++ moment a.mtime ++ moment a.ctime

abbrev pub rank_bytes : Rank → List ℕ
rank_bytes r = double_word r.weight ++ r.owner.0 ++ word r.seq

-- an entry of a directory: its name and its inode's number
abbrev pub entry_bytes : List ℕ × Key → List ℕ
entry_bytes e = opaque e.0 ++ e.1.0

-- "IVL1", "IVE1", "IVI1" and "IVS1"
abbrev pub names_tag : List ℕ
names_tag = 73 ∷ 86 ∷ 76 ∷ 49 ∷ []

abbrev pub entries_tag : List ℕ
entries_tag = 73 ∷ 86 ∷ 69 ∷ 49 ∷ []

abbrev pub inode_tag : List ℕ
inode_tag = 73 ∷ 86 ∷ 73 ∷ 49 ∷ []

abbrev pub root_tag : List ℕ
root_tag = 73 ∷ 86 ∷ 83 ∷ 49 ∷ []

-- the tag, the level, and the names of blocks
abbrev pub list_block : ℕ → List Key → List ℕ
list_block level keys = names_tag ++ word level ++ array (λ k. k.0) keys

-- the tag, and some entries of a directory
abbrev pub entries_block : List (List ℕ × Key) → List ℕ
entries_block entries = entries_tag ++ array entry_bytes entries

-- the tag, and the parts
abbrev pub inode_block : InodeBlock → List ℕ
inode_block b =
    inode_tag ++ b.number.0 ++ word (kind_number b.kind) ++ attributes_bytes b.attributes ++ double_word b.size ++ opaque b.target
    ++ listed_bytes b.items

-- the tag, and the parts
abbrev pub root_block : RootBlock → List ℕ
root_block b = root_tag ++ b.view.0 ++ array vector_entry b.front ++ optional rank_bytes b.tide ++ listed_bytes b.inodes

-- ---- bounds

pub record IsListed (most : ℕ) (l : NamedList) : Type 0 where
  pub few : l.level ≤ most
  pub top : IsKey l.top
  pub none : l.level ≡ 0 → l.top ≡ no_name

-- those that records have
pub record AreAttributes (a : Attributes) : Type 0 where
  pub mode : IsMode a.mode
  pub uid : a.uid < 4294967296
  pub gid : a.gid < 4294967296
  pub atime : IsMoment a.atime
  pub mtime : IsMoment a.mtime
  pub ctime : IsMoment a.ctime

abbrev pub IsEntry : List ℕ × Key → Type 0
IsEntry e = IsFileName e.0 × IsKey e.1

-- the names of a directory ascend by their bytes
abbrev pub Ascend : List (List ℕ × Key) → Type 0
Ascend entries = IsTrue (is_sorted (slice_cmp nat_cmp) entries)

-- each log of a vector stands once, in order
abbrev pub IsStamped : Entry → Type 0
IsStamped e = IsKey e.0 × (1 ≤ e.1.seq) × (e.1.seq < 4294967296) × IsKey e.1.name

pub record IsVectorSpelled (v : Vector) : Type 0 where
  pub each : AllByRecursion IsStamped v
  pub in_order : IsTrue (is_sorted key_cmp v)
  pub short : length v < 4294967296

pub record IsRankSpelled (r : Rank) : Type 0 where
  pub weight : r.weight < 18446744073709551616
  pub owner : IsBlock 60 r.owner.0
  pub seq : r.seq < 4294967296

-- a file's size; of others it isn't told
abbrev pub most_content_bytes : Kind → ℕ
most_content_bytes Reg = longest_file
most_content_bytes Dir = 0
most_content_bytes Lnk = 0

-- a list has at most three levels, and a link has none
abbrev pub most_levels : Kind → ℕ
most_levels Reg = 3
most_levels Dir = 3
most_levels Lnk = 0

abbrev pub IsPiece : List ℕ → Type 0
IsPiece bytes = (1 ≤ length bytes) × (length bytes ≤ 8192)

pub record AreNamed (keys : List Key) : Type 0 where
  pub some : 1 ≤ length keys
  pub few : length keys ≤ 512
  pub each : AllByRecursion IsKey keys

-- a block has so many entries of a directory at most
abbrev pub most_entries : ℕ
most_entries = 32

pub record AreEntries (entries : List (List ℕ × Key)) : Type 0 where
  pub some : 1 ≤ length entries
  pub few : length entries ≤ most_entries
  pub each : AllByRecursion IsEntry entries
  pub in_order : Ascend entries

pub record IsInodeBlock (b : InodeBlock) : Type 0 where
  pub number : IsKey b.number
  pub attributes : AreAttributes b.attributes
  pub size : b.size ≤ most_content_bytes b.kind
  pub target : IsTarget b.kind b.target
  pub items : IsListed (most_levels b.kind) b.items

pub record IsRootBlock (b : RootBlock) : Type 0 where
  pub view : IsKey b.view
  pub front : IsVectorSpelled b.front
  pub tide : IfSome b.tide IsRankSpelled
  pub inodes : IsListed 3 b.inodes

-- the block says this, and it has its bounds
pub record Says {A : Type 0} (Fits : A → Type 0) (spell : A → List ℕ) (block : List ℕ) (x : A) : Type 0 where
  pub fits : Fits x
  pub spelled : block ≡ spell x
