use Rattle.std.proofs.Common.{arith}
use Rattle.wire_model.proofs.Dependent.{on_err}
use Rattle.version_vectors.proofs.EntryReading.{no_name, zero_seq}
use Rattle.version_vectors.proofs.entry.read_entry.Goals as goal

pub returns-in_err-name-clause-err : goal.returns-in_err-name-clause-err
returns-in_err-name-clause-err c = on_err c.from_residual-in_err-name.result (no_name c.in_ok-log.ensures.ok c.in_ok-seq.ensures.ok c.in_err-name.ensures.err)

pub returns-then-seq-eq0-clause-err : goal.returns-then-seq-eq0-clause-err
returns-then-seq-eq0-clause-err c = zero_seq c.in_ok-log.ensures.ok c.in_ok-seq.ensures.ok c.in_ok-name.ensures.ok (grind (arith, c.if-seq-eq0.true))
