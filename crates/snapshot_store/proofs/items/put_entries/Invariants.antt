use Rattle.std.proofs.Common.{◌≡◌}
use Rattle.std.specs.Slice.Iter.{chunks_rest, chunks_size}
use Rattle.snapshot_model.specs.Spelling.{entries_made}
use Rattle.snapshot_model.specs.Blocks.{most_entries}
use Rattle.snapshot_store.specs.Listing.{IsListing}
use Rattle.snapshot_store.proofs.items.put_entries.Given as goal

abbrev pub invariant-entries : goal.invariant-entries
invariant-entries l = record {
  listed : IsListing most_entries entries_made l.fn.blocks l.fn.entries (chunks_rest l.some-iterator) l.blocks l.levels;
  size : chunks_size l.some-iterator ≡ most_entries;
}
