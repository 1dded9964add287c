use Rattle.std.proofs.Common.{◌≡◌, take}
use Rattle.log_model.specs.Vector.{join}
use Rattle.version_vectors.specs.Vectors.{IsVector}
use Rattle.version_vectors.specs.Entries.{vector_of}
use Rattle.version_vectors.proofs.place.take_all_in.Given as goal

abbrev pub invariant-others : goal.invariant-others
invariant-others l = record {
  so_far : vector_of l.entries.items ≡ join (vector_of l.initial.entries.items) (vector_of (take l.other-index l.others));
  whole : IsVector (vector_of l.entries.items);
}
