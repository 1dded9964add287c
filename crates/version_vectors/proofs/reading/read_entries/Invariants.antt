use Rattle.std.proofs.Common.{◌≡◌, length}
use Rattle.wire_model.specs.OneReading.{IsFront}
use Rattle.version_vectors.specs.Vectors.{IsVector}
use Rattle.version_vectors.specs.Entries.{vector_of}
use Rattle.version_vectors.specs.Reading.{entries_bytes}
use Rattle.version_vectors.proofs.reading.read_entries.Given as goal

abbrev pub invariant-entries : goal.invariant-entries
invariant-entries l = record {
  front : IsFront IsVector entries_bytes l.initial.reader (vector_of l.entries.items) l.reader;
  count : length (vector_of l.entries.items) ≡ l._n;
}
