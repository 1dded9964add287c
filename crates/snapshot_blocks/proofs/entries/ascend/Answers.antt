use Rattle.std.proofs.Common.{rules}
use Rattle.std.proofs.lemmas.List.Sorted.{answers_always}
use Rattle.snapshot_blocks.proofs.Ascending.{is_below, ascend_from}
use Rattle.snapshot_blocks.proofs.entries.ascend.Goals as goal

pub returns : goal.returns
returns c = ascend_from c.args.entries.now c.is_sorted_by.result (c.is_sorted_by.ensures.cases is_below (answers_always _ _ _ (λ f a r f' q. search rules)))
