use Rattle.std.proofs.lemmas.Result.{err_from_is_err_and}
use Rattle.conflict_list.specs.Conflicts.{seen_all}
use Rattle.conflict_list.proofs.Rows.{rows_end, rows_full, rows_with}
use Rattle.conflict_list.proofs.list.conflicts.Goals as goal

pub records-preserved : goal.records-preserved
records-preserved c = record {
  so_far = rows_with c.args.records.now c.records.i (seen_all c.records.list.items) (seen_all c.add_clashes.new.list.items) c.records-test.true c.in_ok-add_clashes.ensures.added c.records.invariant.so_far;
  few = c.in_ok-add_clashes.ensures.few;
}

pub returns-in_err-add_clashes-clause-fault : goal.returns-in_err-add_clashes-clause-fault
returns-in_err-add_clashes-clause-fault c =
    let p = err_from_is_err_and c.from_residual-in_err-add_clashes.result c.from_residual-in_err-add_clashes.ensures.1 in
    rw (p.1, p.2) (rows_full c.args.records.now c.records.i (seen_all c.records.list.items) _ c.records-test.true c.in_err-add_clashes.ensures.fault c.records.invariant.so_far)

pub returns-clause-list : goal.returns-clause-list
returns-clause-list c = rows_end c.args.records.now c.records.i (seen_all c.records.list.items) c.records-test.false c.records.invariant.so_far
