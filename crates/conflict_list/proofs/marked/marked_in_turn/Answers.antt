use Rattle.std.proofs.Common.{◌≡◌, ℕ, length, subst, arith}
use Rattle.conflict_list.specs.Tables.{AreMarked}
use Rattle.conflict_list.proofs.MarkedLemmas.{none_marked}
use Rattle.conflict_list.proofs.marked.marked_in_turn.Goals as goal

pub records-init : goal.records-init
records-init c = none_marked c.args.records.now c.args.of.now c.new-list.result.items c.new-list.ensures.items

pub returns : goal.returns
returns c =
    let low = c.records-test.false in
    let high = c.records.auto.place-end in
    let e : c.records.place ≡ length c.args.records.now = omega (arith, low, high) in
    subst (λ (n : ℕ). AreMarked c.args.records.now c.args.of.now n c.records.list.items) e c.records.invariant
