use Rattle.snapshot_loading.specs.Loading.HasRead.{nothing}
use Rattle.snapshot_loading.proofs.load.Load.start.Goals as goal

pub invariant_of-result : goal.invariant_of-result
invariant_of-result c = rw (c.new.ensures.items, c.in_ok-push_back.ensures.items, c.new-todo.ensures.items) nothing
