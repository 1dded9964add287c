use Rattle.std.proofs.Common.{◌∙◌}
use Rattle.script_world.proofs.Passing.{only_memory}
use Rattle.script_world.proofs.made_views.view_in_order.Goals as goal

pub unreachable-requires : goal.unreachable-requires
unreachable-requires c =
    c.in_default.not-Memory
    (only_memory c.args.members.items c.args.former.items c.deref.result.now c.deref-2.result.now c.in-Err.fault
    (c.deref.ensures.value ∙ c.in_order-members.ensures) (c.deref-2.ensures.value ∙ c.in_order-former.ensures) c.requires.some c.requires.few c.requires.few_former c.requires.own
    c.in-Err.ensures.err)
