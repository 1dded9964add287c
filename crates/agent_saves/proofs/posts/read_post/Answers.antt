use Rattle.std.proofs.lemmas.Result.{err_from_is_err_and}
use Rattle.agent_saves.proofs.PostReading.{no_block, misnamed}
use Rattle.agent_saves.proofs.posts.read_post.Goals as goal

pub returns-in_err-block-clause-err : goal.returns-in_err-block-clause-err
returns-in_err-block-clause-err c =
    let p = err_from_is_err_and c.from_residual-in_err-block.result c.from_residual-in_err-block.ensures.1 in
    rw (p.1, p.2) (no_block c.in_ok-kind.ensures.ok c.in_ok-key.ensures.ok c.in_err-block.ensures.none)

pub returns-then-not-has_its_name-clause-err : goal.returns-then-not-has_its_name-clause-err
returns-then-not-has_its_name-clause-err c = misnamed c.in_ok-kind.ensures.ok c.in_ok-key.ensures.ok c.in_ok-block.ensures.ok (λ h. let t = c.has_its_name.ensures.1 h in absurd (cc (t, c.if-not-has_its_name.true)))
