use Rattle.std.proofs.Common.{sym, ap, ◌∙◌, arith}
use Rattle.std.specs.FinMap.Entries.{put}
use Rattle.ivy_base.specs.Naming.{key_cmp}
use Rattle.dhash_model.specs.Stores.{Block, bytes_held}
use Rattle.node_store.proofs.Maps.{put-insert_entry}
use Rattle.node_store.proofs.Puts.{stored_valid}
use Rattle.node_store.proofs.store.Store.hold.Goals as goal

pub invariant_of-self-2 : goal.invariant_of-self-2
invariant_of-self-2 c =
    stored_valid c.args.key.now c.in_ok-block.block c.self.inside.blocks.entries c.insert.new.self.entries c.total_with-total.result
    (c.in_ok-insert.ensures.entries ∙ put-insert_entry c.args.key.now c.in_ok-block.block c.self.inside.blocks.entries)
    (rw (← c.self.view_is) at (c.total_with-total.ensures c.args.kind) ∙ ap (λ (b : Block). bytes_held (put key_cmp c.args.key.now b c.self.inside.blocks.entries)) (sym c.in_ok-block.ensures))
    (omega arith) c.insert.ensures.ordered

pub returns-clause-stored : goal.returns-clause-stored
returns-clause-stored c = rw (← c.self.view_is) (c.in_ok-insert.ensures.entries ∙ put-insert_entry c.args.key.now c.in_ok-block.block c.self.inside.blocks.entries ∙ ap (λ b. put key_cmp c.args.key.now b c.self.inside.blocks.entries) c.in_ok-block.ensures)

pub returns-clause-valid : goal.returns-clause-valid
returns-clause-valid c =
    (stored_valid c.args.key.now c.in_ok-block.block c.self.inside.blocks.entries c.insert.new.self.entries c.total_with-total.result
    (c.in_ok-insert.ensures.entries ∙ put-insert_entry c.args.key.now c.in_ok-block.block c.self.inside.blocks.entries)
    (rw (← c.self.view_is) at (c.total_with-total.ensures c.args.kind) ∙ ap (λ (b : Block). bytes_held (put key_cmp c.args.key.now b c.self.inside.blocks.entries)) (sym c.in_ok-block.ensures))
    (omega arith) c.insert.ensures.ordered).1
