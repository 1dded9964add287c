-- The entries, each with its place, that a run of a directory's entries is.
use Rattle.std.specs.Prelude.{ℕ, List}
use Rattle.ivy_base.specs.declared.key.Key.{Key}
use Rattle.nfs_model.specs.Pages.{placed}
use Rattle.nfs3_reads.specs.declared.entries.Entries.{Entries}

abbrev pub places : Entries → List (ℕ × (List ℕ × Key))
places e = placed e.before e.pairs.now
