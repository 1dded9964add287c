-- What functions answer, by the definitions: what there is, or that there is none.
use Rattle.std.specs.Prelude.{ℕ, List, [], map, Option, Some, None, option_map}
use Rattle.ivy_base.specs.declared.key.Key.{Key}
use Rattle.ivy_base.specs.declared.operation.Kind.{Kind}
use Rattle.turn_model.specs.Basis.{Basis}
use Rattle.fs_tree.specs.Bases.{basis_of}
use Rattle.fs_tree.specs.declared.basis.Basis.{Basis as Kept}
use Rattle.snapshot_loading.specs.declared.parts.InodeParts.{InodeParts}
use Rattle.snapshot_loading.specs.Parts.{numbered}
use Rattle.snapshot_model.specs.Blocks.{InodeBlock}
use Rattle.snapshot_loading.specs.declared.load.Read.{Read}
use Rattle.snapshot_loading.specs.Loading.{HasRead, root_alone}
use Rattle.snapshot_loading.specs.declared.inode.Contents.{Contents}
use Rattle.snapshot_loading.specs.Picks.{Blocks}
use Rattle.snapshot_loading.specs.Contents.{HasContents, HaveEntries}
use Rattle.snapshot_loading.specs.Inodes.{Item, IsInode, AreInodes}
use Rattle.snapshot_loading.specs.Ends.{IsBasis}

abbrev pub AreAllEntries : List (List ℕ) → Option (List (List ℕ × Key)) → Type 0
AreAllEntries blocks (Some es) = HaveEntries blocks es
AreAllEntries blocks None = (es : List (List ℕ × Key)) → HaveEntries blocks es → ⊥

abbrev pub AreContentsOf : Kind → InodeBlock → List (List ℕ) → Option Contents → Type 0
AreContentsOf kind said blocks (Some c) = HasContents kind said blocks c.body c.entries.items
AreContentsOf kind said blocks None = (body : List ℕ) (es : List (List ℕ × Key)) → HasContents kind said blocks body es → ⊥

abbrev pub item_of : InodeParts → Item
item_of p = (numbered p, p.entries.items)

abbrev pub IsAnInode : List ℕ → Blocks → Option InodeParts → Type 0
IsAnInode bytes blocks (Some p) = IsInode bytes blocks (item_of p)
IsAnInode bytes blocks None = (i : Item) → IsInode bytes blocks i → ⊥

abbrev pub AreAllInodes : List (List ℕ × Blocks) → Option (List InodeParts) → Type 0
AreAllInodes blocks (Some parts) = AreInodes blocks (map item_of parts)
AreAllInodes blocks None = (items : List Item) → AreInodes blocks items → ⊥

abbrev pub IsABasis : List ℕ → Blocks → Option Basis → Type 0
IsABasis bytes blocks (Some b) = IsBasis bytes blocks b
IsABasis bytes blocks None = (b : Basis) → IsBasis bytes blocks b → ⊥

-- a basis that is kept, as the definitions have it
abbrev pub loaded_basis : Option Kept → Option Basis
loaded_basis basis = option_map basis_of basis

-- the blocks were read from that root on, until nothing was left
abbrev pub AreReadFrom : List Read → Key → Type 0
AreReadFrom read root = HasRead (root_alone root) read []
