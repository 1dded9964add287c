use Rattle.std.proofs.Common.{◌++◌, length, map, sym, ap, ◌∙◌, subst, arith}
use Rattle.std.proofs.lemmas.List.{length-map, take_all}
use Rattle.snapshot_blocks.specs.Parsed.{entries_of, entry_of}
use Rattle.snapshot_loading.proofs.Runs.{AreDone, all_done, none_after, none_at, one_at}
use Rattle.snapshot_loading.proofs.entries.all_entries.Goals as goal

pub returns-then-before-ne-MOST_ENTRIES : goal.returns-then-before-ne-MOST_ENTRIES
returns-then-before-ne-MOST_ENTRIES c = none_after (λ b. b.now) c.args.blocks.now c.each.block-index c.each.before c.each.all.items c.each-test.true c.each.invariant c.if-before-ne-MOST_ENTRIES.true

pub returns-in-Err-Malformed : goal.returns-in-Err-Malformed
returns-in-Err-Malformed c =
    none_at (λ b. b.now) c.args.blocks.now c.each.block-index c.each.before c.each.all.items c.each-test.true c.each.invariant _ (rw c.in-Err-Malformed.field-0-is at c.in-Err-Malformed.ensures.err)

pub each-preserved : goal.each-preserved
each-preserved c =
    one_at (λ b. b.now) c.args.blocks.now c.each.block-index c.each.before c.each.all.items c.each-test.true c.each.invariant _ (entries_of c.in-Ok.entries.items) c.copy_all.new.all.items c.len-before.result
    c.if-before-ne-MOST_ENTRIES.false c.in-Ok.ensures.ok (c.len-before.ensures ∙ sym c.as_slice.ensures.len ∙ ap length c.as_slice.ensures.value ∙ sym (length-map c.in-Ok.entries.items entry_of))
    (c.in_ok-copy_all.ensures ∙ ap (λ es. c.each.all.items ++ entries_of es) c.as_slice.ensures.value)

pub returns : goal.returns
returns c =
    all_done (map (λ b. b.now) c.args.blocks.now) c.each.before c.each.all.items
    (subst (λ done. AreDone (map (λ b. b.now) done) c.each.before c.each.all.items) (take_all c.each.block-index c.args.blocks.now (omega (arith, c.each-test.false))) c.each.invariant)
