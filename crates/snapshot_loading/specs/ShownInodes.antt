-- What an inode's block shows with all below it.
use Rattle.std.specs.Prelude.{◌≡◌, ℕ, zero, suc, List, [], ◌∷◌, length, map, flat_map}
use Rattle.ivy_base.specs.declared.key.Key.{Key}
use Rattle.ivy_base.specs.declared.operation.Kind.{Kind}
use Rattle.ivy_base.specs.declared.operation.Kind.TheVariants.{Reg, Dir, Lnk}
use Rattle.tree_model.specs.Tree.{Inode}
use Rattle.snapshot_model.specs.Blocks.{InodeBlock, IsInodeBlock, Says, entries_block, inode_block, most_entries}
use Rattle.snapshot_loading.specs.Forests.{Forest, nothing, block, below_by, AreFull, IsEven, IsLeast}

-- of a list of that level, where there is one
abbrev pub IsEvenList : ℕ → Forest → Type 0
IsEvenList zero below = Unit {0}
IsEvenList (suc level) below = IsEven (suc level) below × IsLeast (suc level) below

-- of blocks beside one another
abbrev pub bytes_in : Forest → List (List ℕ)
bytes_in nothing = []
bytes_in (block part bytes below beside) = bytes ∷ bytes_in beside

-- one after the other
abbrev pub run_of : {A : Type 0} → List (List A) → List A
run_of each = flat_map (λ xs. xs) each

-- the blocks at the bottom of its list are the pieces of a file, or the entries of a directory, each but the last a full one; a link has
-- none
abbrev pub AreContents : Kind → InodeBlock → Forest → List ℕ → List (List ℕ × Key) → Type 0
AreContents Reg said items body es = AreFull 8192 (bytes_in items) × (run_of (bytes_in items) ≡ body) × (said.size ≡ length body)
AreContents Dir said items body es =
    (body ≡ []) × (each : List (List (List ℕ × Key))) × (bytes_in items ≡ map entries_block each) × AreFull most_entries each
    × (run_of each ≡ es)
AreContents Lnk said items body es = said.target ≡ body

pub record ShowsInode (bytes : List ℕ) (below : Forest) (number : Key) (inode : Inode) (es : List (List ℕ × Key)) : Type 0 where
  pub said : InodeBlock
  pub says : Says IsInodeBlock inode_block bytes said
  pub number_is : said.number ≡ number
  pub kind : said.kind ≡ inode.kind
  pub attributes : said.attributes ≡ inode.attributes
  pub even : IsEvenList said.items.level below
  pub contents : AreContents inode.kind said (below_by said.items.level below) inode.body es
