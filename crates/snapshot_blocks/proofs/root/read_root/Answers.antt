use Rattle.std.proofs.lemmas.Result.{err_from_is_err_and}
use Rattle.snapshot_blocks.proofs.RootReading.{front_of_vector, no_magic, no_view, no_front, no_tide_behind, no_inodes, root_front}
use Rattle.snapshot_blocks.proofs.root.read_root.Goals as goal

pub returns-in_err-read_constant-clause-err : goal.returns-in_err-read_constant-clause-err
returns-in_err-read_constant-clause-err c =
    let p = err_from_is_err_and c.from_residual.result c.from_residual.ensures.1 in
    rw (p.1, p.2) (no_magic c.in_err-read_constant.ensures.err)

pub returns-in_err-view-clause-err : goal.returns-in_err-view-clause-err
returns-in_err-view-clause-err c =
    let p = err_from_is_err_and c.from_residual-in_err-view.result c.from_residual-in_err-view.ensures.1 in
    rw (p.1, p.2) (no_view c.in_ok-read_constant.ensures.ok c.in_err-view.ensures.err)

pub returns-in_err-front-clause-err : goal.returns-in_err-front-clause-err
returns-in_err-front-clause-err c =
    let p = err_from_is_err_and c.from_residual-in_err-front.result c.from_residual-in_err-front.ensures.1 in
    rw (p.1, p.2) (no_front c.in_ok-read_constant.ensures.ok c.in_ok-view.ensures.ok _ c.in_err-front.ensures.err)

pub returns-in_err-tide-clause-err : goal.returns-in_err-tide-clause-err
returns-in_err-tide-clause-err c =
    let p = err_from_is_err_and c.from_residual-in_err-tide.result c.from_residual-in_err-tide.ensures.1 in
    rw (p.1, p.2) (no_tide_behind c.in_ok-read_constant.ensures.ok c.in_ok-view.ensures.ok (front_of_vector c.in_ok-front.ensures.ok) c.in_err-tide.ensures.err)

pub returns-in_err-inodes-clause-err : goal.returns-in_err-inodes-clause-err
returns-in_err-inodes-clause-err c =
    let p = err_from_is_err_and c.from_residual-in_err-inodes.result c.from_residual-in_err-inodes.ensures.1 in
    rw (p.1, p.2) (no_inodes c.in_ok-read_constant.ensures.ok c.in_ok-view.ensures.ok (front_of_vector c.in_ok-front.ensures.ok) c.in_ok-tide.ensures.ok c.in_err-inodes.ensures.err)

pub returns-clause-ok : goal.returns-clause-ok
returns-clause-ok c = root_front c.in_ok-read_constant.ensures.ok c.in_ok-view.ensures.ok (front_of_vector c.in_ok-front.ensures.ok) c.in_ok-tide.ensures.ok c.in_ok-inodes.ensures.ok
