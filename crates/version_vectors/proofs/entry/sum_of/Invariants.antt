use Rattle.std.proofs.Common.{◌≡◌, ◌*◌, ◌^◌, ◌≤◌, take}
use Rattle.log_model.specs.Vector.{weight_of}
use Rattle.version_vectors.specs.Entries.{vector_of}
use Rattle.version_vectors.proofs.entry.sum_of.Given as goal

abbrev pub invariant-loop-entry : goal.invariant-loop-entry
invariant-loop-entry l = record {
  so_far : l.sum ≡ weight_of (vector_of (take l.entry-index l.entries));
  bound : l.sum ≤ 2 ^ 32 * l.entry-index;
}
