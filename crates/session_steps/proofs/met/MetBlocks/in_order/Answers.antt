use Rattle.std.proofs.Common.{rules, ◌∙◌}
use Rattle.session_steps.proofs.Ordered.{are_first, are_next, are_last}
use Rattle.session_steps.proofs.met.MetBlocks.in_order.Goals as goal

pub places-init : goal.places-init
places-init c = are_first (λ v. v.items) c.args.self.now c.self.inside.places.entries c.into_iter-block-iterator.result c.self.inside.bytes _ c.self.view_is (c.in_ok-blocks.ensures ∙ c.len.ensures.len)
    c.iter-block-items.ensures.found (search rules)

pub places-preserved : goal.places-preserved
places-preserved c = are_next (λ v. v.items) c.args.self.now c.places.block-iterator c.next.new.self (c.in-Some.block.now, c.in-Some.place.now) c.places.blocks.items c.put_at.new.blocks.items c.in_ok-copy_of.field-0 (search rules)
    (c.in_ok-copy_of.ensures ∙ c.as_slice.ensures.value) c.put_at.ensures c.places.invariant

pub returns : goal.returns
returns c = are_last (λ v. v.items) c.args.self.now c.places.block-iterator c.places.blocks.items c.places.invariant (search rules)
