use Rattle.std.proofs.Common.{rules}
use Rattle.std.proofs.lemmas.List.Sorted.{answers_always}
use Rattle.ivy_base.specs.Naming.{key_cmp}
use Rattle.tree_model.proofs.Keys.{keys_total}
use Rattle.snapshot_loading.specs.declared.parts.InodeParts.{InodeParts}
use Rattle.snapshot_loading.specs.Parts.{inode_of}
use Rattle.snapshot_loading.proofs.Ordered.{is_below, sorted_from}
use Rattle.snapshot_loading.proofs.order.numbers_ascend.Goals as goal

pub returns : goal.returns
returns c =
    sorted_from key_cmp keys_total (λ (p : InodeParts). p.number) inode_of c.args.parts.now c.is_sorted_by.result
    (c.is_sorted_by.ensures.cases (is_below key_cmp keys_total (λ (p : InodeParts). p.number) inode_of) (answers_always _ _ _ (λ f a r f' q. search rules)))
