use Rattle.conflict_list.proofs.Finding.{knows_at}
use Rattle.conflict_list.proofs.Places.{spelled_at}
use Rattle.conflict_list.proofs.table.Table.knows.Goals as goal

pub knows-requires-clause-one : goal.knows-requires-clause-one
knows-requires-clause-one c = spelled_at c.args.records.now c.args.one c.index-records-one.result (c.requires.one, c.index-records-one.is) c.requires.spelled

pub returns : goal.returns
returns c = knows_at c.args.records.now c.args.one c.args.other c.index-records-one.result c.index-records-other.result c.knows.result (c.requires.one, c.index-records-one.is) (c.requires.other, c.index-records-other.is) c.knows.ensures
