use Rattle.conflict_list.proofs.Places.{spelled_at}
use Rattle.conflict_list.proofs.logs.goes_on_at.Goals as goal

pub goes_on-requires-clause-older : goal.goes_on-requires-clause-older
goes_on-requires-clause-older c = spelled_at c.args.records.now c.in-Some.i c.index-records-i.result (rw c.in-Some.is at c.requires.earlier, c.index-records-i.is) c.requires.spelled

pub goes_on-requires-clause-newer : goal.goes_on-requires-clause-newer
goes_on-requires-clause-newer c = spelled_at c.args.records.now c.args.j c.index-records-j.result (c.requires.later, c.index-records-j.is) c.requires.spelled
