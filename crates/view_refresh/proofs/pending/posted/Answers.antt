use Rattle.view_refresh.proofs.Giving.{is_posted, none_posted}
use Rattle.view_refresh.proofs.pending.posted.Goals as goal

pub returns-in_err-post : goal.returns-in_err-post
returns-in_err-post c = rw c.from_residual.ensures (none_posted c.args.key.now c.args.posts.now c.in_err-post.ensures)

pub returns : goal.returns
returns c = is_posted c.args.key.now c.args.posts.now c.in_ok-post.post.now c.as_slice.result.now c.in_ok-post.ensures c.as_slice.ensures
