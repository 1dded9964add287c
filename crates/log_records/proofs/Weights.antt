-- How great the weight of a vector is.
use Rattle.std.proofs.Common.{◌*◌, ◌^◌, ◌≤◌, [], ◌∷◌, length, arith}
use Rattle.std.specs.List.{AllByRecursion}
use Rattle.std.proofs.lemmas.List.Sums.{sum_by-cons}
use Rattle.log_model.specs.Vector.{Entry, Vector, weight_of}
use Rattle.version_vectors.specs.Vectors.{EntryFits, IsVector}

each : (v : Vector) → AllByRecursion EntryFits v → weight_of v ≤ 4294967296 * length v
each [] f = omega arith
each (e ∷ v) f = omega (arith, each v f.1, f.0.2, sum_by-cons (λ (e : Entry). e.1.seq) e v)

pub weight_bound : (v : Vector) → IsVector v → length v ≤ 2 ^ 31 → weight_of v ≤ 2 ^ 63
weight_bound v f few = omega (arith, each v f.entries)
