use Rattle.std.proofs.Common.{sym, ap, ◌∙◌, rules}
use Rattle.dhash_model.specs.Stores.{without}
use Rattle.ring_nodes.proofs.Changing.{fold_step}
use Rattle.ring_nodes.proofs.node.drop_all.Goals as goal

pub keys-preserved : goal.keys-preserved
keys-preserved c = c.drop_block.ensures.dropped ∙ ap (without _) c.keys.invariant ∙ sym (fold_step (λ blocks key. without key blocks) c.args.store.now c.args.keys.now c.keys.key-index _ (search rules))
