use Rattle.std.proofs.lemmas.List.Filters.{dedup_is}
use Rattle.ivy_cli.proofs.Ascending.{in_order}
use Rattle.ivy_cli.proofs.summing.in_order.Goals as goal

pub returns : goal.returns
returns c = in_order _ _ _ _ c.in_ok-found.ensures.items c.sort_unstable.ensures.permutation c.sort_unstable.ensures.sorted (dedup_is _ _ _ c.dedup.ensures.filtered)
