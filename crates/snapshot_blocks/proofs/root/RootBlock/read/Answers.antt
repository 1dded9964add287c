use Rattle.std.proofs.lemmas.Result.{err_from_is_err_and}
use Rattle.snapshot_model.proofs.OneBlock.{one_root}
use Rattle.block_parts.proofs.Tested.{ended}
use Rattle.snapshot_blocks.proofs.Wholes.{says_whole, says_nothing, more_behind, refused_whole}
use Rattle.snapshot_blocks.proofs.root.RootBlock.read.Goals as goal

pub returns-in_err-root-clause-err : goal.returns-in_err-root-clause-err
returns-in_err-root-clause-err c =
    let p = err_from_is_err_and c.from_residual.result c.from_residual.ensures.1 in
    rw (p.1, p.2) (refused_whole says_nothing _ (rw c.new-reader.ensures at c.in_err-root.ensures.err))

pub returns-in_err-finish-clause-err : goal.returns-in_err-finish-clause-err
returns-in_err-finish-clause-err c =
    let p = err_from_is_err_and c.from_residual-in_err-finish.result c.from_residual-in_err-finish.ensures.1 in
    rw (p.1, p.2) (more_behind one_root (rw c.new-reader.ensures at c.in_ok-root.ensures.ok) (ended _ _ c.in_err-finish.ensures.err))

pub returns-clause-ok : goal.returns-clause-ok
returns-clause-ok c = says_whole (rw c.new-reader.ensures at c.in_ok-root.ensures.ok) c.in_ok-finish.ensures.ok
