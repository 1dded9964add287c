-- What holds of snapshots and their blocks.
use Rattle.std.specs.Prelude.{◌≡◌, ℕ, List, ◌++◌, map, take}
use Rattle.ivy_base.specs.declared.key.Key.{Key}
use Rattle.ivy_base.specs.Naming.{name, IsCollisionFree}
use Rattle.wire_model.specs.OneReading.{ReadsOne}
use Rattle.snapshot_model.specs.Blocks.{list_block, entries_block, inode_block, root_block, AreNamed, AreEntries, IsInodeBlock, IsRootBlock}
use Rattle.snapshot_model.specs.Reading.{SnapshotPart, NamesParts, AreOf}
use Rattle.turn_model.specs.Basis.{Basis}

-- A block of each form is of one reading, and begins no other.
pub record BlocksAreUnambiguous : Type 0 where
  pub lists : (level : ℕ) → ReadsOne AreNamed (list_block level)
  pub entries : ReadsOne AreEntries entries_block
  pub inodes : ReadsOne IsInodeBlock inode_block
  pub roots : ReadsOne IsRootBlock root_block

-- A block that is such a part names one list of blocks.
abbrev pub NamesAreUnique : Type 0
NamesAreUnique = (part : SnapshotPart) (block : List ℕ) (named others : List (SnapshotPart × Key)) → NamesParts part block named
    → NamesParts part block others
    → named ≡ others

-- What is loaded is what was made: two snapshots are of one basis, if their first blocks, which are their roots, have one name and names
-- tell all their blocks apart.
abbrev pub LoadedIsMade : Type 0
LoadedIsMade = (blocks others : List (List ℕ)) (b c : Basis) → AreOf blocks b → AreOf others c → IsCollisionFree (blocks ++ others)
    → map name (take 1 blocks) ≡ map name (take 1 others) → b ≡ c
