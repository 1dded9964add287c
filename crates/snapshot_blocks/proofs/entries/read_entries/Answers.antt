use Rattle.std.proofs.lemmas.Result.{err_from_is_err_and}
use Rattle.block_parts.proofs.Tested.{ended}
use Rattle.snapshot_blocks.proofs.Wholes.{says_whole, says_nothing, more_behind, refused_whole, fewer_say_nothing, misfit_says_nothing}
use Rattle.snapshot_blocks.proofs.EntryReading.{one_some, without_order}
use Rattle.snapshot_blocks.proofs.entries.read_entries.Goals as goal

pub returns-in_err-entries-clause-err : goal.returns-in_err-entries-clause-err
returns-in_err-entries-clause-err c =
    let p = err_from_is_err_and c.from_residual.result c.from_residual.ensures.1 in
    rw (p.1, p.2) (refused_whole (λ absent. fewer_say_nothing without_order (says_nothing absent)) _ (rw c.new-reader.ensures at c.in_err-entries.ensures.err))

pub returns-in_err-finish-clause-err : goal.returns-in_err-finish-clause-err
returns-in_err-finish-clause-err c =
    let p = err_from_is_err_and c.from_residual-in_err-finish.result c.from_residual-in_err-finish.ensures.1 in
    rw (p.1, p.2) (fewer_say_nothing without_order (more_behind one_some (rw c.new-reader.ensures at c.in_ok-entries.ensures.ok) (ended _ _ c.in_err-finish.ensures.err)))

pub returns-then-not-ascend-clause-err : goal.returns-then-not-ascend-clause-err
returns-then-not-ascend-clause-err c =
    misfit_says_nothing one_some (says_whole (rw c.new-reader.ensures at c.in_ok-entries.ensures.ok) c.in_ok-finish.ensures.ok) without_order
    (λ f. (rw c.as_slice.ensures.value at c.if-not-ascend.ensures) f.in_order)

pub returns-clause-ok : goal.returns-clause-ok
returns-clause-ok c =
    let whole = says_whole (rw c.new-reader.ensures at c.in_ok-entries.ensures.ok) c.in_ok-finish.ensures.ok in
    record { fits = record { some = whole.fits.some; few = whole.fits.few; each = whole.fits.each; in_order = rw c.as_slice.ensures.value at c.if-not-ascend.ensures }; spelled = whole.spelled }
