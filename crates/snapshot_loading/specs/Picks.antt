-- Blocks that were read, by what they are of and by their levels.
use Rattle.std.specs.Prelude.{ℕ, Bool, true, false, ◌&&◌, not, nat_eq, List, [], ◌∷◌, if◌then◌else◌}
use Rattle.snapshot_model.specs.Reading.{SnapshotPart, Root, Listing, AnInode, Piece, Entries}

-- the blocks, each with what it is to be
abbrev pub Blocks : Type 0
Blocks = List (SnapshotPart × List ℕ)

-- whether a block is the root, an inode or of the list of all inodes; else an inode has it
abbrev pub of_inodes : SnapshotPart → Bool
of_inodes Root = true
of_inodes (Listing level item) = of_inodes item
of_inodes AnInode = true
of_inodes Piece = false
of_inodes Entries = false

abbrev pub is_inode : SnapshotPart → Bool
is_inode Root = false
is_inode (Listing level item) = false
is_inode AnInode = true
is_inode Piece = false
is_inode Entries = false

-- the level of a list block, and 0 of what is none
abbrev pub level_of : SnapshotPart → ℕ
level_of Root = 0
level_of (Listing level item) = level
level_of AnInode = 0
level_of Piece = 0
level_of Entries = 0

abbrev pub is_among : Bool → SnapshotPart → Bool
is_among true part = of_inodes part
is_among false part = not (of_inodes part)

abbrev pub is_at : Bool → ℕ → SnapshotPart → Bool
is_at inodes level part = is_among inodes part && nat_eq (level_of part) level

-- those of that level, among the blocks of all inodes or among those that an inode has
abbrev pub picked : Bool → ℕ → Blocks → List (List ℕ)
picked inodes level [] = []
picked inodes level (b ∷ blocks) = if is_at inodes level b.0 then b.1 ∷ picked inodes level blocks else picked inodes level blocks

-- ---- from inode to inode

-- the blocks that an inode has: those up to the next one of the list of all inodes
abbrev pub within : Blocks → Blocks
within [] = []
within (b ∷ blocks) = if of_inodes b.0 then [] else b ∷ within blocks

-- the block of each inode, with those that it has
abbrev pub inodes_in : Blocks → List (List ℕ × Blocks)
inodes_in [] = []
inodes_in (b ∷ blocks) = if is_inode b.0 then (b.1, within blocks) ∷ inodes_in blocks else inodes_in blocks
