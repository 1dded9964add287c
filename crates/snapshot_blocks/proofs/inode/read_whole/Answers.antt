use Rattle.std.proofs.Common.{refl}
use Rattle.wire_model.proofs.Dependent.{on_err}
use Rattle.snapshot_model.proofs.OneBlock.{inode_parts_fit, of_its_kind, one_of_inode_parts, with_kind}
use Rattle.block_parts.proofs.Tested.{ended}
use Rattle.snapshot_blocks.proofs.Wholes.{says_whole, says_nothing, more_behind, fewer_say_nothing, misfit_says_nothing}
use Rattle.snapshot_blocks.proofs.inode.read_whole.Goals as goal

pub returns-in_err-inode-clause-err : goal.returns-in_err-inode-clause-err
returns-in_err-inode-clause-err c = on_err c.from_residual.result (fewer_say_nothing inode_parts_fit (says_nothing (rw c.new-reader.ensures at c.in_err-inode.ensures.err)))

pub returns-in_err-finish-clause-err : goal.returns-in_err-finish-clause-err
returns-in_err-finish-clause-err c =
    on_err c.from_residual-in_err-finish.result
    (fewer_say_nothing inode_parts_fit (more_behind one_of_inode_parts (rw c.new-reader.ensures at c.in_ok-inode.ensures.ok) (ended _ _ c.in_err-finish.ensures.err)))

pub returns-then-not-fits_kind-clause-err : goal.returns-then-not-fits_kind-clause-err
returns-then-not-fits_kind-clause-err c =
    misfit_says_nothing one_of_inode_parts (says_whole (rw c.new-reader.ensures at c.in_ok-inode.ensures.ok) c.in_ok-finish.ensures.ok) inode_parts_fit
    (λ f. let t = c.fits_kind.ensures.1 (of_its_kind _ f) in absurd (cc (t, c.if-not-fits_kind.true)))

pub returns-clause-ok : goal.returns-clause-ok
returns-clause-ok c =
    let whole = says_whole (rw c.new-reader.ensures at c.in_ok-inode.ensures.ok) c.in_ok-finish.ensures.ok in
    record { fits = with_kind _ whole.fits (c.if-not-fits_kind.ensures.0 refl); spelled = whole.spelled }
