use Rattle.std.proofs.lemmas.Result.{err_from_is_err_and}
use Rattle.log_records.proofs.Frames.{frame_front, no_frame_lead, no_frame_vector}
use Rattle.log_records.proofs.frame.read_frame.Goals as goal

pub returns-in_default-clause-err : goal.returns-in_default-clause-err
returns-in_default-clause-err c =
    no_frame_lead c.args.log.now c.of-parts.ensures c.read_format-format.ensures c.u32-kind.ensures c.read_same.ensures c.read_key-prev.ensures c.u32-seq.ensures c.read_moment-moment.ensures c.in_default.ensures

pub returns-in_err-vector-clause-err : goal.returns-in_err-vector-clause-err
returns-in_err-vector-clause-err c =
    let p = err_from_is_err_and c.from_residual.result c.from_residual.ensures.1 in
    rw (p.1, p.2)
    (no_frame_vector c.args.log.now c.of-parts.ensures c.read_format-format.ensures c.u32-kind.ensures c.read_same.ensures c.read_key-prev.ensures c.u32-seq.ensures c.read_moment-moment.ensures _
    c.in-Some.ensures (rw c.new-reader.ensures at c.in_err-vector.ensures.err))

pub returns-clause-ok : goal.returns-clause-ok
returns-clause-ok c = rw c.rest-2.ensures
    (frame_front c.args.log.now c.of-parts.ensures c.read_format-format.ensures c.u32-kind.ensures c.read_same.ensures c.read_key-prev.ensures c.u32-seq.ensures c.read_moment-moment.ensures
    c.in-Some.ensures (rw c.new-reader.ensures at c.in_ok-vector.ensures.ok))
