use Rattle.std.proofs.Common.{ap, ◌∙◌, Ok, subst}
use Rattle.snapshot_loading.specs.Loading.{Loading, HasBeenGiven, wanted_of}
use Rattle.snapshot_loading.specs.Roles.{blocks_in}
use Rattle.snapshot_loading.proofs.Loads.{taken}
use Rattle.snapshot_loading.proofs.load.Load.take.Goals as goal

pub invariant_of-self-in-Ok : goal.invariant_of-self-in-Ok
invariant_of-self-in-Ok c =
    (taken _ c.self.invariant c.unwrap.result.now c.in_ok-next-in-Ok.next (blocks_in c.in-Ok.named) c.replace_next.new.todo.items (rw c.unwrap.ensures at c.front.ensures.lookup) c.in_ok-next-in-Ok.ensures.ok
    c.args.bytes c.as_slice.result.now c.as_slice.ensures c.in-Ok.ensures.ok (ap wanted_of c.self.view_is ∙ c.requires)
    c.push_reserved.new.self.items c.try_reserve.new.self.items c.try_reserve.ensures.items c.push_reserved.ensures.items).0

pub returns-in_ok-next-in-Ok-clause-given : goal.returns-in_ok-next-in-Ok-clause-given
returns-in_ok-next-in-Ok-clause-given c =
    subst (λ (l : Loading). HasBeenGiven l (record { root = c.self.inside.root; read = c.push_reserved.new.self.items; todo = c.replace_next.new.todo.items; failed = c.self.inside.failed }) (Ok c.args.bytes)) c.self.view_is
    (taken _ c.self.invariant c.unwrap.result.now c.in_ok-next-in-Ok.next (blocks_in c.in-Ok.named) c.replace_next.new.todo.items (rw c.unwrap.ensures at c.front.ensures.lookup) c.in_ok-next-in-Ok.ensures.ok
    c.args.bytes c.as_slice.result.now c.as_slice.ensures c.in-Ok.ensures.ok (ap wanted_of c.self.view_is ∙ c.requires)
    c.push_reserved.new.self.items c.try_reserve.new.self.items c.try_reserve.ensures.items c.push_reserved.ensures.items).1
