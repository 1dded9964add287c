-- Which blocks may be a log's public key: none that begins with the letters IV, as each block does that has a form.
use Rattle.std.specs.Prelude.{◌≡◌, ℕ, List, ◌∷◌, Contains}
use Rattle.std.specs.List.{AllByRecursion}
use Rattle.ivy_base.specs.declared.key.Key.{Key}
use Rattle.ivy_base.specs.declared.key.PubKey.{PubKey}
use Rattle.log_model.specs.Record.{Record}
use Rattle.log_model.specs.Spelling.{head_block, record_block}
use Rattle.log_model.specs.Vector.{Stamp}
use Rattle.log_model.specs.View.{View, view_block}
use Rattle.snapshot_model.specs.Blocks.{InodeBlock, RootBlock, entries_block, inode_block, list_block, root_block}
use Rattle.world_model.specs.Agents.{own_hss_key}
use Rattle.world_model.specs.Logs.{Played}
use Rattle.world_model.specs.World.{Participant}
use Rattle.world_laws.specs.Invariant.{Invariant}

-- the block begins with the letters IV
abbrev pub HasTag : List ℕ → Type 0
HasTag block = (rest : List ℕ) × (block ≡ 73 ∷ 86 ∷ rest)

-- So does the block of each record, head and view.
abbrev pub LogsHaveTags : Type 0
LogsHaveTags = ((r : Record) → HasTag (record_block r))
    × ((owner : PubKey) (newest : Stamp) (signature : List ℕ) → HasTag (head_block owner newest signature))
    × ((view : View) → HasTag (view_block view))

-- And each block of a snapshot but the pieces of files, which are bytes of the file and no more.
abbrev pub SnapshotsHaveTags : Type 0
SnapshotsHaveTags = ((level : ℕ) (keys : List Key) → HasTag (list_block level keys))
    × ((entries : List (List ℕ × Key)) → HasTag (entries_block entries)) × ((b : InodeBlock) → HasTag (inode_block b))
    × ((b : RootBlock) → HasTag (root_block b))

-- A public key begins with a zero byte. So where all blocks that were met have tags, none is the public key of a participant's log.
abbrev pub TaggedAreNoKeys : Type 0
TaggedAreNoKeys = (w : Played) (p : Participant) → Invariant w → AllByRecursion HasTag w.0.met → Contains w.0.participants p
    → Contains w.0.met (own_hss_key p.agent).0 → ⊥
