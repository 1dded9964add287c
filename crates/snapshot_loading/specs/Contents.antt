-- What an inode contains, by the blocks at the bottom of its list.
use Rattle.std.specs.Prelude.{◌≡◌, ℕ, List, [], length, map}
use Rattle.std.specs.List.{AllByRecursion}
use Rattle.ivy_base.specs.declared.key.Key.{Key}
use Rattle.ivy_base.specs.declared.operation.Kind.{Kind}
use Rattle.ivy_base.specs.declared.operation.Kind.TheVariants.{Reg, Dir, Lnk}
use Rattle.snapshot_model.specs.Blocks.{AreEntries, InodeBlock, entries_block, most_entries}
use Rattle.snapshot_loading.specs.Forests.{AreFull}
use Rattle.snapshot_loading.specs.ShownInodes.{run_of}

-- the blocks have these entries, each block but the last 32
pub record HaveEntries (blocks : List (List ℕ)) (es : List (List ℕ × Key)) : Type 0 where
  pub each : List (List (List ℕ × Key))
  pub spelled : blocks ≡ map entries_block each
  pub fit : AllByRecursion AreEntries each
  pub full : AreFull most_entries each
  pub run : run_of each ≡ es

-- that is a file's bytes, a link's text, or a directory's entries
abbrev pub HasContents : Kind → InodeBlock → List (List ℕ) → List ℕ → List (List ℕ × Key) → Type 0
HasContents Reg said blocks body es = (es ≡ []) × AreFull 8192 blocks × (run_of blocks ≡ body) × (said.size ≡ length body)
HasContents Dir said blocks body es = (body ≡ []) × HaveEntries blocks es
HasContents Lnk said blocks body es = (es ≡ []) × (said.target ≡ body)
