use Rattle.std.proofs.Common.{◌≡◌, ◌+◌, ◌*◌, ◌++◌, take}
use Rattle.version_vectors.specs.Entries.{vector_of}
use Rattle.version_vectors.specs.Reading.{entries_bytes}
use Rattle.version_vectors.proofs.entry.write_entries.Given as goal

abbrev pub invariant-loop-entry : goal.invariant-loop-entry
invariant-loop-entry l = record {
  written : l.out.written ≡ l.initial.out.written ++ entries_bytes (vector_of (take l.entry-index l.entries));
  spare : l.out.spare + 44 * l.entry-index ≡ l.initial.out.spare;
}
