use Rattle.std.proofs.Common.{◌≡◌, length}
use Rattle.std.specs.List.{AllByRecursion, flat_map}
use Rattle.wire_model.specs.OneReading.{IsFront}
use Rattle.snapshot_model.specs.Blocks.{IsEntry, entry_bytes}
use Rattle.snapshot_blocks.specs.Parsed.{entries_of}
use Rattle.snapshot_blocks.proofs.entries.read_each.Given as goal

abbrev pub invariant-entries : goal.invariant-entries
invariant-entries l = record {
  front : IsFront (AllByRecursion IsEntry) (flat_map entry_bytes) l.initial.reader (entries_of l.entries.items) l.reader;
  count : length (entries_of l.entries.items) ≡ l._n;
}
