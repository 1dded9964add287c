use Rattle.std.proofs.Common.{sym, subst}
use Rattle.version_vectors.specs.Vectors.{IsVector}
use Rattle.version_vectors.specs.Entries.{vector_of}
use Rattle.version_vectors.proofs.Whole.{outer_parts, whole_without}
use Rattle.version_vectors.proofs.vector.Vector.without.Goals as goal

pub invariant_of-result : goal.invariant_of-result
invariant_of-result c =
    let es = c.self.inside.entries.items in
    let parts = outer_parts es c.around.result.0.now c.around.result.1.now (rw (← c.as_slice.ensures.value) c.around.ensures) in
    rw (c.in_ok-extend_from_slice-2.ensures.items, c.in_ok-extend_from_slice.ensures.items, c.in_ok-entries.ensures.items)
    (subst IsVector (sym parts) (whole_without (vector_of es) c.args.log.now c.self.invariant))
