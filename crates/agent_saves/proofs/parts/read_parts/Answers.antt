use Rattle.std.proofs.lemmas.Result.{err_from_is_err_and}
use Rattle.agent_saves.proofs.PostReading.{refused}
use Rattle.agent_saves.proofs.PartReading.{no_tag, no_signer, no_view, no_reach, refused_floor, no_posts, no_name, told_front}
use Rattle.agent_saves.proofs.parts.read_parts.Goals as goal

pub returns-in_err-read_constant-clause-err : goal.returns-in_err-read_constant-clause-err
returns-in_err-read_constant-clause-err c =
    let p = err_from_is_err_and c.from_residual.result c.from_residual.ensures.1 in
    rw (p.1, p.2) (no_tag c.in_err-read_constant.ensures.err)

pub returns-in_err-signer-clause-err : goal.returns-in_err-signer-clause-err
returns-in_err-signer-clause-err c =
    let p = err_from_is_err_and c.from_residual-in_err-signer.result c.from_residual-in_err-signer.ensures.1 in
    rw (p.1, p.2) (no_signer c.in_ok-read_constant.ensures.ok c.in_err-signer.ensures.none)

pub returns-in_err-view-clause-err : goal.returns-in_err-view-clause-err
returns-in_err-view-clause-err c =
    let p = err_from_is_err_and c.from_residual-in_err-view.result c.from_residual-in_err-view.ensures.1 in
    rw (p.1, p.2) (refused (no_view c.in_ok-read_constant.ensures.ok c.in_ok-signer.ensures.ok) _ c.in_err-view.ensures.err)

pub returns-in_err-reach-clause-err : goal.returns-in_err-reach-clause-err
returns-in_err-reach-clause-err c =
    let p = err_from_is_err_and c.from_residual-in_err-reach.result c.from_residual-in_err-reach.ensures.1 in
    rw (p.1, p.2) (no_reach c.in_ok-read_constant.ensures.ok c.in_ok-signer.ensures.ok c.in_ok-view.ensures.ok c.in_err-reach.ensures.none)

pub returns-in_err-floor-clause-err : goal.returns-in_err-floor-clause-err
returns-in_err-floor-clause-err c =
    let p = err_from_is_err_and c.from_residual-in_err-floor.result c.from_residual-in_err-floor.ensures.1 in
    rw (p.1, p.2) (refused_floor c.in_ok-read_constant.ensures.ok c.in_ok-signer.ensures.ok c.in_ok-view.ensures.ok c.in_ok-reach.ensures.ok _ c.in_err-floor.ensures.err)

pub returns-in_err-pending-clause-err : goal.returns-in_err-pending-clause-err
returns-in_err-pending-clause-err c =
    let p = err_from_is_err_and c.from_residual-in_err-pending.result c.from_residual-in_err-pending.ensures.1 in
    rw (p.1, p.2) (refused (no_posts c.in_ok-read_constant.ensures.ok c.in_ok-signer.ensures.ok c.in_ok-view.ensures.ok c.in_ok-reach.ensures.ok c.in_ok-floor.ensures.ok) _ c.in_err-pending.ensures.err)

pub returns-in_err-snapshot-clause-err : goal.returns-in_err-snapshot-clause-err
returns-in_err-snapshot-clause-err c =
    let p = err_from_is_err_and c.from_residual-in_err-snapshot.result c.from_residual-in_err-snapshot.ensures.1 in
    rw (p.1, p.2) (no_name c.in_ok-read_constant.ensures.ok c.in_ok-signer.ensures.ok c.in_ok-view.ensures.ok c.in_ok-reach.ensures.ok c.in_ok-floor.ensures.ok c.in_ok-pending.ensures.ok c.in_err-snapshot.ensures.err)

pub returns-clause-ok : goal.returns-clause-ok
returns-clause-ok c =
    told_front c.in_ok-read_constant.ensures.ok c.in_ok-signer.ensures.ok c.in_ok-view.ensures.ok c.in_ok-reach.ensures.ok c.in_ok-floor.ensures.ok c.in_ok-pending.ensures.ok c.in_ok-snapshot.ensures.ok
