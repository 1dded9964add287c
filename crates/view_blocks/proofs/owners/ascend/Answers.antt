use Rattle.std.proofs.Common.{rules}
use Rattle.std.proofs.lemmas.List.Sorted.{answers_always}
use Rattle.view_blocks.proofs.Ascending.{is_below, ascend_from, partial_is}
use Rattle.view_blocks.proofs.owners.ascend.Goals as goal

pub returns : goal.returns
returns c = ascend_from c.args.keys.now c.is_sorted_by.result (c.is_sorted_by.ensures.cases is_below (answers_always _ _ _ (λ f a r f' q. search (rules, partial_is a.0.now.0 a.1.0.now.0))))
