use Rattle.std.proofs.Common.{◌≡◌, ◌++◌, take}
use Rattle.snapshot_blocks.specs.Parsed.{entries_of}
use Rattle.snapshot_loading.proofs.entries.copy_all.Given as goal

abbrev pub invariant-each : goal.invariant-each
invariant-each l = l.all.items ≡ l.initial.all.items ++ entries_of (take l.entry-index l.entries)
