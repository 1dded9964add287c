use Rattle.std.proofs.Common.{sym, ◌∙◌}
use Rattle.std.proofs.lemmas.Result.{err_from_is_err_and}
use Rattle.conflict_list.proofs.Places.{spelled_at}
use Rattle.conflict_list.proofs.Rows.{pair_full, pair_with}
use Rattle.conflict_list.proofs.list.add_clash.Goals as goal

pub are_in_conflict-requires-clause-one : goal.are_in_conflict-requires-clause-one
are_in_conflict-requires-clause-one c = spelled_at c.args.records.now c.args.i c.index-records-i.result (c.requires.i, c.index-records-i.is) c.requires.spelled

pub are_in_conflict-requires-clause-other : goal.are_in_conflict-requires-clause-other
are_in_conflict-requires-clause-other c = spelled_at c.args.records.now c.args.j c.index-records-j.result (c.requires.j, c.index-records-j.is) c.requires.spelled

pub clash_of-requires-clause-one : goal.clash_of-requires-clause-one
clash_of-requires-clause-one c = spelled_at c.args.records.now c.args.i c.index-records-i.result (c.requires.i, c.index-records-i.is) c.requires.spelled

pub clash_of-requires-clause-other : goal.clash_of-requires-clause-other
clash_of-requires-clause-other c = spelled_at c.args.records.now c.args.j c.index-records-j.result (c.requires.j, c.index-records-j.is) c.requires.spelled

pub returns-in_ok-add-clause-added : goal.returns-in_ok-add-clause-added
returns-in_ok-add-clause-added c = pair_with c.args.records.now c.args.i c.args.j c.index-records-i.result c.index-records-j.result c.args.list.now.items c.add.new.list.items c.clash_of.result
    (c.requires.i, c.index-records-i.is) (c.requires.j, c.index-records-j.is) (sym c.are_in_conflict.ensures ∙ c.if-are_in_conflict.true) c.clash_of.ensures c.in_ok-add.ensures.added

pub returns-in_err-add-clause-fault : goal.returns-in_err-add-clause-fault
returns-in_err-add-clause-fault c =
    let p = err_from_is_err_and c.from_residual.result c.from_residual.ensures.1 in
    rw (p.1, p.2) (pair_full c.args.records.now c.args.i c.args.j c.index-records-i.result c.index-records-j.result c.args.list.now.items c.clash_of.result _
    (c.requires.i, c.index-records-i.is) (c.requires.j, c.index-records-j.is) (sym c.are_in_conflict.ensures ∙ c.if-are_in_conflict.true) c.clash_of.ensures c.in_err-add.ensures.fault)
