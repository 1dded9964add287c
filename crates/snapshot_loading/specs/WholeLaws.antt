-- When blocks that were read are the list over some blocks, and a tree that of a snapshot.
use Rattle.std.specs.Prelude.{◌≡◌, ◌↔◌, ℕ, ◌≤◌, List, [], ◌∷◌, map, Some, None}
use Rattle.snapshot_model.specs.Spelling.{list_of, inode_over, items_of}
use Rattle.ivy_base.specs.declared.key.Key.{Key}
use Rattle.ivy_base.specs.Naming.{name}
use Rattle.tree_model.specs.Tree.{Tree, Inode}
use Rattle.tree_model.specs.Sound.{IsSound}
use Rattle.snapshot_model.specs.Reading.{SnapshotPart, Root, Listing, AnInode, IsWholeTree, IsBasisSpelled, AreOf}
use Rattle.session_model.specs.Refreshing.{Loaded}
use Rattle.snapshot_loading.specs.declared.load.Read.{Read}
use Rattle.snapshot_loading.specs.Roles.{part_of}
use Rattle.snapshot_loading.specs.Loading.{Loading, HasRead, ComesTo, IsReadWhole, root_alone}
use Rattle.turn_model.specs.Basis.{Basis}
use Rattle.snapshot_loading.specs.ShownInodes.{ShowsInode}
use Rattle.snapshot_loading.specs.Wholes.{ShowsBasis}
use Rattle.snapshot_loading.specs.Forests.{Forest, nothing, block, flat, below_by, mades, Fits, IsEven, IsLeast}

-- A list block of that level with all below it is the list over what is so many levels below, exactly where on each level all blocks but
-- the last have 512 names, and a level less wouldn't be enough.
abbrev pub EvenListsAreLists : Type 0
EvenListsAreLists = (item : SnapshotPart) (level : ℕ) (bytes : List ℕ) (below : Forest) → 1 ≤ level → level ≤ 3
    → Fits (block (Listing level item) bytes below nothing)
    → ((IsEven level (block (Listing level item) bytes below nothing) × IsLeast level (block (Listing level item) bytes below nothing))
    ↔ (list_of (mades (below_by level (block (Listing level item) bytes below nothing)))
    ≡ (level, mades (block (Listing level item) bytes below nothing))))

-- A tree of a snapshot is one without contradictions, and each such one may be a snapshot's.
abbrev pub WholeTreesAreSound : Type 0
WholeTreesAreSound = (t : Tree) → IsWholeTree t ↔ IsSound t

-- ---- what was read

abbrev pub blocks_read : List Read → List (SnapshotPart × List ℕ)
blocks_read read = map (λ r. (part_of r.role, r.bytes)) read

-- Blocks that were read from a root on, until nothing was left, are one root with all below it, in the order in which they were read.
pub record IsRead (root : Key) (read : List Read) : Type 0 where
  pub bytes : List ℕ
  pub below : Forest
  pub named : name bytes ≡ root
  pub fits : Fits (block Root bytes below nothing)
  pub order : flat (block Root bytes below nothing) ≡ blocks_read read

abbrev pub ReadIsForest : Type 0
ReadIsForest = (root : Key) (read : List Read) → HasRead (root_alone root) read [] → IsRead root read

-- Such blocks are of no other parts and in no other way below one another.
abbrev pub ForestIsUnique : Type 0
ForestIsUnique = (bytes others : List ℕ) (below under : Forest) → Fits (block Root bytes below nothing)
    → Fits (block Root others under nothing)
    → map (λ b. b.1) (flat (block Root bytes below nothing)) ≡ map (λ b. b.1) (flat (block Root others under nothing))
    → (bytes ≡ others) × (below ≡ under)

-- ---- inodes

-- A block that shows an inode is, with all below it, what a snapshot has of that inode.
abbrev pub ShownInodesAreMade : Type 0
ShownInodesAreMade = (number : Key) (inode : Inode) (es : List (List ℕ × Key)) (bytes : List ℕ) (below : Forest)
    → Fits (block AnInode bytes below nothing) → ShowsInode bytes below number inode es
    → mades (block AnInode bytes below nothing) ≡ inode_over number inode (list_of (items_of es inode.body inode.kind)) ∷ []

-- ---- the whole

-- What was read is a basis's snapshot exactly where its root shows the basis, and the basis may be a snapshot's and is within the bounds.
abbrev pub LoadedIsShown : Type 0
LoadedIsShown = (bytes : List ℕ) (below : Forest) (b : Basis) → Fits (block Root bytes below nothing)
    → AreOf (map (λ p. p.1) (flat (block Root bytes below nothing))) b ↔ (IsWholeTree b.tree × IsBasisSpelled b × ShowsBasis bytes below b)

-- So loading that has read all comes to the basis that the root shows, of a tree without contradictions and within the bounds; or to none,
-- where it shows no such one.
pub record EndsByShown (l : Loading) (read : List Read) : Type 0 where
  pub whole : IsRead l.root read
  pub of_one : (b : Basis) → IsSound b.tree → IsBasisSpelled b → ShowsBasis whole.bytes whole.below b → ComesTo l (Loaded (Some b))
  pub of_none : ((b : Basis) → IsSound b.tree → IsBasisSpelled b → ShowsBasis whole.bytes whole.below b → ⊥) → ComesTo l (Loaded None)

abbrev pub LoadingEnds : Type 0
LoadingEnds = (l : Loading) (read : List Read) → IsReadWhole l read → EndsByShown l read

-- Blocks are the snapshot of one basis at most.
abbrev pub SnapshotIsUnique : Type 0
SnapshotIsUnique = (blocks : List (List ℕ)) (b other : Basis) → AreOf blocks b → AreOf blocks other → other ≡ b
