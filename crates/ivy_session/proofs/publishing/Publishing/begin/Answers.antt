use Rattle.std.proofs.Common.{sym, ap, ◌∙◌}
use Rattle.ivy_session.specs.Putting.{putting}
use Rattle.ivy_session.specs.Publishing.{PublishingState}
use Rattle.ivy_session.proofs.Steps.{has_begun, begins_next, none_next}
use Rattle.ivy_session.proofs.publishing.Publishing.begin.Goals as goal

pub posts-init : goal.posts-init
posts-init c = has_begun c.args.self.now

pub posts-smaller : goal.posts-smaller
posts-smaller c =
    (begins_next c.args.self.now c.posts.self c.posts.invariant c.in-Some.post (sym c.next_post.ensures.post ∙ c.in-Some.is) c.next_post.new.self c.next_post.ensures.left c.in_ok-put.put
    (c.in_ok-put.ensures ∙ ap (λ (s : PublishingState). putting c.in-Some.post s.replicas s.entries) c.self.view_is) c.go_on.new.self c.in_ok-go_on.ensures).1

pub posts-preserved : goal.posts-preserved
posts-preserved c =
    (begins_next c.args.self.now c.posts.self c.posts.invariant c.in-Some.post (sym c.next_post.ensures.post ∙ c.in-Some.is) c.next_post.new.self c.next_post.ensures.left c.in_ok-put.put
    (c.in_ok-put.ensures ∙ ap (λ (s : PublishingState). putting c.in-Some.post s.replicas s.entries) c.self.view_is) c.go_on.new.self c.in_ok-go_on.ensures).0

pub returns-clause-begun : goal.returns-clause-begun
returns-clause-begun c = none_next c.args.self.now c.posts.self c.posts.invariant (sym c.next_post.ensures.post ∙ c.in_default.is) c.next_post.new.self c.next_post.ensures.left
