use Rattle.std.proofs.Common.{◌≡◌, take}
use Rattle.snapshot_blocks.specs.Parsed.{entries_of}
use Rattle.snapshot_store.proofs.items.block_of.Given as goal

abbrev pub invariant-entries : goal.invariant-entries
invariant-entries l = entries_of l.lent.items ≡ take l.entry-index l.entries
