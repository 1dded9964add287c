use Rattle.script_world.proofs.Sorting.{sorted_is}
use Rattle.script_world.proofs.made_views.in_order.Goals as goal

pub returns : goal.returns
returns c = sorted_is _ _ c.sort_unstable.ensures.permutation c.sort_unstable.ensures.sorted
