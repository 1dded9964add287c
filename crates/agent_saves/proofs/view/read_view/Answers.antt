use Rattle.std.proofs.lemmas.Result.{err_from_is_err_and}
use Rattle.agent_saves.proofs.ViewReading.{no_view_block, refused_view}
use Rattle.agent_saves.proofs.view.read_view.Goals as goal

pub returns-in_err-block-clause-err : goal.returns-in_err-block-clause-err
returns-in_err-block-clause-err c =
    let p = err_from_is_err_and c.from_residual.result c.from_residual.ensures.1 in
    rw (p.1, p.2) (no_view_block c.in_err-block.ensures.none)

pub returns-in_err-view-clause-err : goal.returns-in_err-view-clause-err
returns-in_err-view-clause-err c =
    let p = err_from_is_err_and c.from_residual-in_err-view.result c.from_residual-in_err-view.ensures.1 in
    rw (p.1, p.2) (refused_view c.in_ok-block.ensures.ok _ c.in_err-view.ensures.err)
