use Rattle.wire_model.proofs.Dependent.{on_err}
use Rattle.wire_model.proofs.Fronts.{both}
use Rattle.snapshot_blocks.proofs.EntryReading.{no_name, no_number}
use Rattle.snapshot_blocks.proofs.entries.read_entry.Goals as goal

pub returns-in_err-name-clause-err : goal.returns-in_err-name-clause-err
returns-in_err-name-clause-err c = on_err c.from_residual.result (no_name c.in_err-name.ensures.err)

pub returns-in_err-number-clause-err : goal.returns-in_err-number-clause-err
returns-in_err-number-clause-err c = on_err c.from_residual-in_err-number.result (no_number c.in_ok-name.ensures.ok c.in_err-number.ensures.err)

pub returns-clause-ok : goal.returns-clause-ok
returns-clause-ok c = both c.in_ok-name.ensures.ok c.in_ok-number.ensures.ok
