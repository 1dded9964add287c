use Rattle.std.proofs.Common.{length, ◌<◌, ◌^◌, subst}
use Rattle.std.proofs.lemmas.List.Elements.{All-more}
use Rattle.dht_ids.specs.declared.post.Post.{Post}
use Rattle.ivy_agent.proofs.Posts.{one_more}
use Rattle.ivy_agent.proofs.saving.posts_len.Goals as goal

pub posts-preserved : goal.posts-preserved
posts-preserved c = record {
  size = one_more c.args.posts.now c.posts.post-index c.post-item.result c.posts-test.true c.post-item.is _ _ _ c.posts.invariant.size c.in_ok-post_len.ensures.size c.in_ok-len.ensures.1;
  short = All-more (λ p. length p.bytes < 2 ^ 32) c.args.posts.now c.posts.post-index c.post-item.result c.posts-test.true c.posts.invariant.short (subst (λ (p : Post). length p.bytes < 2 ^ 32) c.post-item.is c.in_ok-post_len.ensures.short);
}
