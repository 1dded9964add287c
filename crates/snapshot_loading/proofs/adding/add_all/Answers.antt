use Rattle.std.proofs.Common.{◌+◌, List, [], take, drop, sym, subst, arith}
use Rattle.std.proofs.lemmas.List.{take_all}
use Rattle.tree_model.specs.Tree.{Tree}
use Rattle.snapshot_loading.specs.declared.parts.InodeParts.{InodeParts}
use Rattle.snapshot_loading.specs.Steps.{AreAdded}
use Rattle.snapshot_loading.proofs.Sorted.{split_at, taken}
use Rattle.snapshot_loading.proofs.Added.{added_start, added_next, sorted_part}
use Rattle.snapshot_loading.proofs.adding.add_all.Goals as goal

pub parts-init : goal.parts-init
parts-init c = subst (λ (t : Tree). AreAdded [] t) (sym c.requires.empty) added_start

pub parts-preserved : goal.parts-preserved
parts-preserved c =
    let i = c.parts.part-index in
    let ps = c.args.parts.now in
    let p = c.part-item.result in
    subst (λ (done : List InodeParts). AreAdded done c.add.new.tree) (sym (taken ps i p c.parts-test.true c.part-item.is))
    (added_next (take i ps) c.parts.tree c.parts.invariant p (sorted_part (take i ps) p (drop (i + 1) ps) ps (split_at ps i p c.parts-test.true c.part-item.is) c.requires.order) c.add.new.tree c.in_ok-add.ensures)

pub returns : goal.returns
returns c = subst (λ (done : List InodeParts). AreAdded done c.parts.tree) (take_all c.parts.part-index c.args.parts.now (omega (arith, c.parts-test.false))) c.parts.invariant
