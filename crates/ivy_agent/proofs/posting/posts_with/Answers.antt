use Rattle.dht_ids.specs.declared.post.Post.{Post}
use Rattle.agent_model.specs.SavedBytes.{AreOpaque}
use Rattle.ivy_agent.proofs.Counted.{that_one, those_before}
use Rattle.ivy_agent.proofs.posting.posts_with.Goals as goal

pub returns-clause-written : goal.returns-clause-written
returns-clause-written c = those_before (λ (p : Post). AreOpaque p.bytes) c.args.written.items c.push.new.self.items c.args.head c.in_ok-push.ensures.items c.join_posts.result c.join_posts.ensures.more

pub returns-clause-head : goal.returns-clause-head
returns-clause-head c = that_one (λ (p : Post). AreOpaque p.bytes) c.args.written.items c.push.new.self.items c.args.head c.in_ok-push.ensures.items c.join_posts.result c.join_posts.ensures.more
