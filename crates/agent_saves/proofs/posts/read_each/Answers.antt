use Rattle.std.proofs.Common.{arith, length-append}
use Rattle.std.proofs.lemmas.Result.{err_from_is_err_and}
use Rattle.agent_saves.proofs.PostReading.{more_posts, no_next_post, refused}
use Rattle.agent_saves.proofs.posts.read_each.Goals as goal

pub returns-in_err-read_post-clause-err : goal.returns-in_err-read_post-clause-err
returns-in_err-read_post-clause-err c =
    let p = err_from_is_err_and c.from_residual.result c.from_residual.ensures.1 in
    rw (p.1, p.2) (refused (no_next_post c.posts.invariant.front (omega (arith, c.posts.invariant.count, c.posts-test.true))) _ c.in_err-read_post.ensures.err)

pub posts-preserved : goal.posts-preserved
posts-preserved c = record {
  front = rw c.in_ok-push.ensures.items (more_posts c.posts.invariant.front c.in_ok-read_post.ensures.ok);
  count = rw (c.in_ok-push.ensures.items, length-append) (omega (arith, c.posts.invariant.count));
}
