-- What blocks are to be, and what they name, as the definitions have it.
use Rattle.std.specs.Prelude.{◌≡◌, ℕ, List, [], ◌∷◌, ◌++◌, map}
use Rattle.ivy_base.specs.declared.key.Key.{Key}
use Rattle.snapshot_model.specs.Reading.{SnapshotPart, Root, Listing, AnInode, Piece, Entries, NamesParts}
use Rattle.block_parts.specs.declared.fault.BlockFault.{BlockFault}
use Rattle.block_parts.specs.declared.fault.BlockFault.TheVariants as fault
use Rattle.snapshot_loading.specs.declared.role.Item.{Item}
use Rattle.snapshot_loading.specs.declared.role.Item.TheVariants as item
use Rattle.snapshot_loading.specs.declared.role.Role.{Role}
use Rattle.snapshot_loading.specs.declared.role.Role.TheVariants as role
use Rattle.snapshot_loading.specs.declared.role.Wanted.{Wanted}
use Rattle.snapshot_loading.specs.declared.names.Named.{Named}
use Rattle.snapshot_loading.specs.declared.names.Named.TheVariants as named

abbrev pub item_part : Item → SnapshotPart
item_part item.Inode = AnInode
item_part item.Piece = Piece
item_part item.Entries = Entries

abbrev pub part_of : Role → SnapshotPart
part_of role.Root = Root
part_of (role.List level over) = Listing level (item_part over)
part_of (role.Item one) = item_part one

abbrev pub parts_of : List Wanted → List (SnapshotPart × Key)
parts_of wanted = map (λ w. (part_of w.role, w.key)) wanted

-- blocks that are to be that, by the bytes of their names
abbrev pub blocks_of : Role → List (List ℕ) → List Wanted
blocks_of one keys = map (λ bytes. record { role = one; key = record { 0 = bytes } }) keys

-- what a block names, in its order
abbrev pub blocks_in : Named → List Wanted
blocks_in named.Nothing = []
blocks_in (named.Top one key) = record { role = one; key = key } ∷ []
blocks_in (named.Each one keys) = blocks_of one keys.now

-- it is no such part; where memory is short nothing is told of it
abbrev pub IsNoPart : SnapshotPart → List ℕ → Type 0
IsNoPart part block = (named : List (SnapshotPart × Key)) → NamesParts part block named → ⊥

abbrev pub RefusesPart : SnapshotPart → List ℕ → BlockFault → Type 0
RefusesPart part block fault.Malformed = IsNoPart part block
RefusesPart part block fault.Memory = Unit {0}

-- these come in place of the next one
pub record Replaces (before named : List Wanted) (next : Wanted) (after : List Wanted) : Type 0 where
  pub left : List Wanted
  pub before_is : before ≡ next ∷ left
  pub after_is : after ≡ named ++ left
