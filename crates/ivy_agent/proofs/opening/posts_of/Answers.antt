use Rattle.std.proofs.Common.{◌∙◌}
use Rattle.dht_ids.specs.declared.post.Post.{Post}
use Rattle.agent_model.specs.SavedBytes.{AreOpaque}
use Rattle.ivy_agent.proofs.Counted.{each_of_two}
use Rattle.ivy_agent.proofs.opening.posts_of.Goals as goal

pub returns-clause-block : goal.returns-clause-block
returns-clause-block c = (each_of_two (λ (p : Post). AreOpaque p.bytes) _ _ c.as_slice.result.now (c.as_slice.ensures.value ∙ c.in_ok-posts.ensures.items) (c.are_counted.ensures c.if-not-are_counted.false)).0

pub returns-clause-head : goal.returns-clause-head
returns-clause-head c = (each_of_two (λ (p : Post). AreOpaque p.bytes) _ _ c.as_slice.result.now (c.as_slice.ensures.value ∙ c.in_ok-posts.ensures.items) (c.are_counted.ensures c.if-not-are_counted.false)).1
