-- An inode with the places of it that are stored, and what operations make of the two.
use Rattle.std.specs.Prelude.{ℕ, ◌+◌, ◌-◌, Bool, true, false, List, ◌++◌, length, take, drop, replicate, Option, Some, None, option_map}
use Rattle.std.specs.Prelude.{if◌then◌else◌}
use Rattle.ivy_base.specs.declared.operation.Moment.{Moment}
use Rattle.ivy_base.specs.declared.operation.Op.{Op}
use Rattle.ivy_base.specs.declared.operation.Op.TheVariants as op
use Rattle.tree_model.specs.Tree.{Inode, file_kind}
use Rattle.inode_replay.specs.Contents.{made, changed, touched_inode}

-- an inode, and which places of its bytes a Write wrote
pub record Kept : Type 0 where
  pub inode : Inode
  pub written : List Bool

-- ---- places

-- so many places written from the offset on, a gap left unwritten
abbrev pub places_written : ℕ → ℕ → List Bool → List Bool
places_written offset n places = take offset places ++ replicate (offset - length places) false ++ replicate n true
    ++ drop (offset + n) places

-- the places below that size, unwritten where there were none; all where no size is given
abbrev pub places_below : Option ℕ → List Bool → List Bool
places_below None places = places
places_below (Some size) places = take size places ++ replicate (size - length places) false

-- what an operation on a regular file leaves of its places
abbrev pub places_after : Op → List Bool → List Bool
places_after (op.Write number offset bytes) places = places_written offset (length bytes) places
places_after (op.SetAttrs number change) places = places_below change.size places
places_after _ places = places

-- ---- an inode with its places

-- the inode that the operation adds, no place of which is written
abbrev pub made_kept : Moment → Op → Option Kept
made_kept now o = option_map (λ i. record { inode = i; written = replicate (length i.body) false }) (made now o)

-- what is left by an operation on the inode: it changes the places of a regular file alone
abbrev pub changed_kept : Moment → Op → Kept → Kept
changed_kept now o k = record {
  inode = changed now o k.inode;
  written = if file_kind k.inode.kind then places_after o k.written else k.written;
}

-- its bytes, or a directory's entries, changed at that moment
abbrev pub touched_kept : Moment → Kept → Kept
touched_kept now k = record k { inode = touched_inode now k.inode }
