use Rattle.std.proofs.Common.{◌≡◌, ◌++◌, take}
use Rattle.std.specs.List.{flat_map}
use Rattle.snapshot_model.specs.Blocks.{entry_bytes}
use Rattle.snapshot_blocks.specs.Parsed.{entries_of}
use Rattle.snapshot_blocks.proofs.entries.put_entries.Given as goal

abbrev pub invariant-loop-entry : goal.invariant-loop-entry
invariant-loop-entry l = l.out.written ≡ l.initial.out.written ++ flat_map entry_bytes (entries_of (take l.entry-index l.entries))
