-- Reading a snapshot back: what each of its blocks names, whatever it was made of.
use Rattle.std.specs.Prelude.{◌≡◌, ℕ, zero, suc, ◌≤◌, IsTrue, List, [], ◌∷◌, length, map, Some, IfSome}
use Rattle.std.specs.List.{AllByRecursion}
use Rattle.ivy_base.specs.declared.key.Key.{Key}
use Rattle.ivy_base.specs.declared.operation.Kind.{Kind}
use Rattle.ivy_base.specs.declared.operation.Kind.TheVariants.{Reg, Dir, Lnk}
use Rattle.ivy_base.specs.Naming.{IsFileName, root_number}
use Rattle.tree_model.specs.Tree.{Tree, IsInOrder, Inode, inode_at, has_name, is_directory, is_inside, name_count, listing, longest_file}
use Rattle.log_model.specs.Spelling.{IsKey, IsTarget}
use Rattle.turn_model.specs.Basis.{Basis}
use Rattle.snapshot_model.specs.Blocks.{InodeBlock, RootBlock, list_block, entries_block, inode_block, root_block, AreAttributes}
use Rattle.snapshot_model.specs.Blocks.{IsVectorSpelled, IsRankSpelled, IsPiece, AreNamed, AreEntries, IsInodeBlock, IsRootBlock, Says}
use Rattle.snapshot_model.specs.Spelling.{snapshot_named}

-- ---- what a block names

-- what a block is to be: the root, a list of that level over such blocks, an inode, a piece of a file, or entries of a directory
pub data SnapshotPart : Type 0 where
  Root : SnapshotPart
  Listing : (level : ℕ) (item : SnapshotPart) → SnapshotPart
  AnInode : SnapshotPart
  Piece : SnapshotPart
  Entries : SnapshotPart

-- the top block of a list, where it isn't empty
abbrev pub top_of : SnapshotPart → ℕ → Key → List (SnapshotPart × Key)
top_of item zero top = []
top_of item (suc level) top = (Listing (suc level) item, top) ∷ []

-- what a list block of that level names
abbrev pub part_below : ℕ → SnapshotPart → SnapshotPart
part_below zero item = item
part_below (suc zero) item = item
part_below (suc (suc level)) item = Listing (suc level) item

-- what the list of an inode is over
abbrev pub item_of : Kind → SnapshotPart
item_of Reg = Piece
item_of Dir = Entries
item_of Lnk = Entries

-- The block is such a part, and names these, in this order.
abbrev pub NamesParts : SnapshotPart → List ℕ → List (SnapshotPart × Key) → Type 0
NamesParts Root block named = (root : RootBlock) × Says IsRootBlock root_block block root
    × (named ≡ top_of AnInode root.inodes.level root.inodes.top)
NamesParts (Listing level item) block named =
    (keys : List Key) × Says AreNamed (list_block level) block keys × (named ≡ map (λ k. (part_below level item, k)) keys)
NamesParts AnInode block named = (inode : InodeBlock) × Says IsInodeBlock inode_block block inode
    × (named ≡ top_of (item_of inode.kind) inode.items.level inode.items.top)
NamesParts Piece block named = IsPiece block × (named ≡ [])
NamesParts Entries block named = (entries : List (List ℕ × Key)) × Says AreEntries entries_block block entries × (named ≡ [])

-- ---- the whole

-- a tree of a snapshot: its names are in directories and of inodes, the root is a directory without a name, and a directory has at most one
-- and doesn't lie inside itself
pub record IsWholeTree (t : Tree) : Type 0 where
  pub in_order : IsInOrder t
  pub root : IsTrue (is_directory (inode_at t root_number))
  pub no_name : IsTrue (has_name t root_number) → ⊥
  pub parents : AllByRecursion (λ e. IsTrue (is_directory (inode_at t e.0.0))) t.names
  pub known : AllByRecursion (λ e. (i : Inode) × (inode_at t e.1 ≡ Some i)) t.names
  pub once : AllByRecursion (λ i. IsTrue (is_directory (Some i.1)) → name_count t i.0 ≤ 1) t.inodes
  pub no_loop : AllByRecursion (λ e. IsTrue (is_directory (inode_at t e.1)) → IsTrue (is_inside t e.0.0 e.1) → ⊥) t.names

-- the contents are of that kind: a file's bytes, a link's target, and nothing of a directory
abbrev pub IsBodyOf : Kind → List ℕ → Type 0
IsBodyOf Reg body = length body ≤ longest_file
IsBodyOf Dir body = body ≡ []
IsBodyOf Lnk body = IsTarget Lnk body

-- the inode's parts have the bounds that they have in records
pub record HasBounds (i : Inode) : Type 0 where
  pub attributes : AreAttributes i.attributes
  pub body : IsBodyOf i.kind i.body

-- The basis has a spelling of which it is the only one. Without these bounds two bases, one number of which differs by 2^32, have the same
-- blocks, and a list of more than 512^3 items those of an empty one.
pub record IsBasisSpelled (b : Basis) : Type 0 where
  pub front : IsVectorSpelled b.front
  pub tide : IfSome b.tide IsRankSpelled
  pub inodes : AllByRecursion (λ i. IsKey i.0 × HasBounds i.1) b.tree.inodes
  pub names : AllByRecursion (λ e. IsKey e.0.0 × IsFileName e.0.1 × IsKey e.1) b.tree.names
  pub few : length b.tree.inodes ≤ 134217728
  pub few_names : AllByRecursion (λ i. length (listing b.tree i.0) ≤ 4294967296) b.tree.inodes

-- The blocks that were read, in their order, are the snapshot of this basis; of no other one they are.
pub record AreOf (blocks : List (List ℕ)) (b : Basis) : Type 0 where
  pub whole : IsWholeTree b.tree
  pub bounds : IsBasisSpelled b
  pub view : Key
  pub is_key : IsKey view
  pub spelled : (snapshot_named view b).reading ≡ blocks
