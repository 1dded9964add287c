use Rattle.std.proofs.Common.{arith}
use Rattle.wire_model.proofs.Dependent.{on_err}
use Rattle.snapshot_blocks.proofs.ListReading.{no_item, names_front}
use Rattle.snapshot_blocks.proofs.list.read_names.Goals as goal

pub returns-in_err-names-clause-err : goal.returns-in_err-names-clause-err
returns-in_err-names-clause-err c = on_err c.from_residual-in_err-names.result (no_item c.in_ok-count.ensures.ok c.in_err-names.ensures.err)

pub returns-clause-ok : goal.returns-clause-ok
returns-clause-ok c = names_front c.in_ok-count.ensures.ok c.in_ok-names.ensures.ok (grind (arith, c.if-count-eq0.false)) (omega (arith, c.if-count-gt-MOST_NAMES.false))
