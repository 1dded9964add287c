use Rattle.std.proofs.Common.{◌≡◌, ◌++◌, filter, take}
use Rattle.ivy_session.specs.Kinds.{is_kind}
use Rattle.ivy_session.proofs.order.copy_kind.Given as goal

-- those of that kind were copied that were passed
abbrev pub invariant-posts : goal.invariant-posts
invariant-posts l = l.ordered.items ≡ l.initial.ordered.items ++ filter (λ p. is_kind l.kind p.kind) (take l.post-index l.posts)
