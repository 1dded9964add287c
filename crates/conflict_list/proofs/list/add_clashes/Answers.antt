use Rattle.std.proofs.Common.{◌+◌, get_or, length, refl, inl, inr, arith}
use Rattle.std.proofs.lemmas.Result.{err_from_is_err_and}
use Rattle.conflict_list.specs.Conflicts.{seen_all}
use Rattle.conflict_list.proofs.Rows.{passed_more, row_begins, row_ends, row_full, row_with}
use Rattle.conflict_list.proofs.list.add_clashes.Goals as goal
use Rattle.conflict_list.proofs.list.add_clashes.Goals.{then-next-j+then-j-records+in_ok-add_clash, else-next-j, else-next-j-via-then-next-j+else-j-records, else-next-j-via-else-next-j}

pub found-init : goal.found-init
found-init c = record {
  low = omega arith;
  high = (let lt = c.requires.i in omega (arith, lt));
  passed = λ x lt. absurd (omega (arith, lt));
  so_far = row_begins c.args.records.now c.args.i (seen_all c.args.list.now.items);
  few = c.requires.few;
}

pub found-preserved : goal.found-preserved
found-preserved c =
    let so_far = c.found.invariant in
    let low = c.found.invariant.low in
    let high = c.found.invariant.high in
    elim c.if-next-j.branch [
      | then-next-j+then-j-records+in_ok-add_clash w ↦ (
          let next = w.next-is in
          let le = w.if-next-j.true in
          let lt = w.if-j-records.true in
          record {
            low = omega (arith, next, low, le);
            high = omega (arith, next, lt);
            passed = rw w.next-is (passed_more (length c.args.records.now) c.args.found.now c.found.place-index c.found.next (get_or c.args.found.now c.found.place-index 0 + 1) (omega (arith, le)) (inl (omega arith)) c.found.invariant.passed);
            so_far = rw (w.list-is, w.next-is) (row_with c.args.records.now c.args.i c.args.found.now c.found.place-index c.found.next (get_or c.args.found.now c.found.place-index 0) (seen_all c.found.list.items) (seen_all w.add_clash.new.list.items) (seen_all c.args.list.now.items)
                c.requires.found c.requires.ascending low c.found.invariant.passed le lt refl w.in_ok-add_clash.ensures.added c.found.invariant.so_far);
            few = rw w.list-is w.in_ok-add_clash.ensures.few;
          })
      | else-next-j w ↦ (
          let next = w.next-is in
          record {
            low = omega (arith, next, low);
            high = omega (arith, next, high);
            passed = rw w.next-is (passed_more (length c.args.records.now) c.args.found.now c.found.place-index c.found.next c.found.next (omega arith)
                (elim w.else-next-j.branch [ else-next-j-via-then-next-j+else-j-records v ↦ inr v.if-j-records.false | else-next-j-via-else-next-j v ↦ inl v.if-next-j.false ])
                c.found.invariant.passed);
            so_far = rw (w.list-is, w.next-is) c.found.invariant.so_far;
            few = rw w.list-is c.found.invariant.few;
          })
    ]

pub returns-in_err-add_clash-clause-fault : goal.returns-in_err-add_clash-clause-fault
returns-in_err-add_clash-clause-fault c =
    let p = err_from_is_err_and c.from_residual.result c.from_residual.ensures.1 in
    rw (p.1, p.2) (row_full c.args.records.now c.args.i c.args.found.now c.found.place-index c.found.next (get_or c.args.found.now c.found.place-index 0) (seen_all c.found.list.items) (seen_all c.args.list.now.items) _
    c.requires.found c.requires.ascending c.found.invariant.low c.found.invariant.passed c.if-next-j.true c.if-j-records.true refl c.in_err-add_clash.ensures.fault c.found.invariant.so_far)

pub returns-clause-added : goal.returns-clause-added
returns-clause-added c = row_ends c.args.records.now c.args.i c.args.found.now c.found.place-index c.found.next (seen_all c.found.list.items) (seen_all c.args.list.now.items)
    c.requires.found c.requires.ascending c.found.invariant.low c.found.invariant.high c.found.invariant.passed c.found-test.false c.found.invariant.so_far
