use Rattle.std.proofs.Common.{◌++◌, ◌∷◌, [], ap, ◌∙◌}
use Rattle.dht_ids.specs.declared.post.Post.{Post}
use Rattle.ivy_session.specs.Kinds.{is_kind}
use Rattle.ivy_session.proofs.Ordered.{with_it, without_it, all_copied}
use Rattle.ivy_session.proofs.order.copy_kind.Goals as goal
use Rattle.ivy_session.proofs.order.copy_kind.Goals.{then-is_kind+in_ok-copy_of+in_ok-push, else-is_kind}

pub posts-preserved : goal.posts-preserved
posts-preserved c = elim c.if-is_kind.branch [
  | then-is_kind+in_ok-copy_of+in_ok-push w ↦ with_it (λ p. is_kind c.args.kind p.kind) c.args.posts.now c.args.ordered.now.items c.posts.post-index c.post-item.result c.is_kind.result c.posts.ordered.items c.if-is_kind.ordered.items
      c.posts-test.true c.post-item.is c.is_kind.ensures w.if-is_kind.true c.posts.invariant
      (ap (λ v. v.items) w.ordered-is ∙ w.in_ok-push.ensures.items ∙ ap (λ (p : Post). c.posts.ordered.items ++ p ∷ []) w.in_ok-copy_of.ensures)
  | else-is_kind w ↦ ap (λ v. v.items) w.ordered-is
      ∙ without_it (λ p. is_kind c.args.kind p.kind) c.args.posts.now c.args.ordered.now.items c.posts.post-index c.post-item.result c.is_kind.result c.posts.ordered.items
      c.posts-test.true c.post-item.is c.is_kind.ensures w.if-is_kind.false c.posts.invariant
]

pub returns : goal.returns
returns c = all_copied (λ p. is_kind c.args.kind p.kind) c.args.posts.now c.args.ordered.now.items c.posts.post-index c.posts.ordered.items c.posts-test.false c.posts.invariant
