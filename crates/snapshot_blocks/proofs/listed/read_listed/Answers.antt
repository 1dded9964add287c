use Rattle.std.proofs.Common.{refl}
use Rattle.wire_model.proofs.Dependent.{on_err}
use Rattle.snapshot_blocks.proofs.PartReading.{listed_front, no_listed, no_level, no_top}
use Rattle.snapshot_blocks.proofs.listed.read_listed.Goals as goal

pub returns-in_err-level-clause-err : goal.returns-in_err-level-clause-err
returns-in_err-level-clause-err c = on_err c.from_residual.result (no_level c.in_err-level.ensures.err)

pub returns-in_err-top-clause-err : goal.returns-in_err-top-clause-err
returns-in_err-top-clause-err c = on_err c.from_residual-in_err-top.result (no_top c.in_ok-level.ensures.ok c.in_err-top.ensures.err)

pub returns-then-not-fits_level-clause-err : goal.returns-then-not-fits_level-clause-err
returns-then-not-fits_level-clause-err c = no_listed c.in_ok-level.ensures.ok c.in_ok-top.ensures.ok (λ h. let t = c.fits_level.ensures.1 h in absurd (cc (t, c.if-not-fits_level.true)))

pub returns-clause-ok : goal.returns-clause-ok
returns-clause-ok c = listed_front c.in_ok-level.ensures.ok c.in_ok-top.ensures.ok (c.if-not-fits_level.ensures.0 refl)
