use Rattle.std.proofs.Common.{ap, ◌∙◌}
use Rattle.node_store.proofs.Sums.{exchanged, size_of}
use Rattle.node_store.proofs.store.Store.total_with.Goals as goal
use Rattle.node_store.proofs.store.Store.total_with.Goals.{in-Some, in-None}

pub returns : goal.returns
returns c = λ kind. rw (← c.self.view_is) (exchanged c.args.key.now _ c.self.inside.total c.match-get.replaced _ c.self.invariant.0 (elim c.match-get.branch [
  | in-Some w ↦ w.replaced-is ∙ w.len-replaced.ensures ∙ ap size_of w.in-Some.ensures.value
  | in-None w ↦ w.replaced-is ∙ ap size_of w.in-None.ensures.value
]) c.self.invariant.1.ascending)
