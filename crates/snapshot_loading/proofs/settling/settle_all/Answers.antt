use Rattle.std.proofs.Common.{◌+◌, List, take, drop, sym, subst}
use Rattle.snapshot_loading.specs.declared.parts.InodeParts.{InodeParts}
use Rattle.snapshot_loading.proofs.Sorted.{split_at, taken}
use Rattle.snapshot_loading.proofs.Settled.{AreSettledTo, awaits_next, settled_next}
use Rattle.snapshot_loading.proofs.settling.settle_all.Goals as goal

pub settle-requires-clause-awaits : goal.settle-requires-clause-awaits
settle-requires-clause-awaits c =
    let ps = c.args.parts.now in
    let i = c.parts.part-index in
    let p = c.part-item.result in
    awaits_next (take i ps) ps p (drop (i + 1) ps) (split_at ps i p c.parts-test.true c.part-item.is) c.requires.order c.args.tree.now c.parts.tree c.parts.invariant

pub parts-preserved : goal.parts-preserved
parts-preserved c =
    let ps = c.args.parts.now in
    let i = c.parts.part-index in
    let p = c.part-item.result in
    subst (λ (done : List InodeParts). AreSettledTo done ps c.args.tree.now c.settle.new.tree) (sym (taken ps i p c.parts-test.true c.part-item.is))
    (settled_next (take i ps) ps p (drop (i + 1) ps) (split_at ps i p c.parts-test.true c.part-item.is) c.requires.order c.args.tree.now c.parts.tree c.parts.invariant c.settle.new.tree c.in_ok-settle.ensures)
