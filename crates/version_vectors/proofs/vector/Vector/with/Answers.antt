use Rattle.std.proofs.Common.{sym, subst}
use Rattle.version_vectors.specs.Vectors.{IsVector}
use Rattle.version_vectors.specs.Entries.{stamped, vector_of}
use Rattle.version_vectors.proofs.Whole.{between_parts, whole_put}
use Rattle.version_vectors.proofs.vector.Vector.with.Goals as goal

pub invariant_of-result : goal.invariant_of-result
invariant_of-result c =
    let es = c.self.inside.entries.items in
    let parts = between_parts es c.around.result.0.now c.around.result.1.now c.args.entry (rw (← c.as_slice.ensures.value) c.around.ensures) in
    rw (c.in_ok-extend_from_slice-2.ensures.items, c.in_ok-push.ensures.items, c.in_ok-extend_from_slice.ensures.items, c.in_ok-entries.ensures.items)
    (subst IsVector (sym parts) (whole_put (vector_of es) c.args.entry.log (stamped c.args.entry).1 c.self.invariant (c.check_types.ensures.log, c.requires, c.check_types.ensures.seq, c.check_types.ensures.name)))
