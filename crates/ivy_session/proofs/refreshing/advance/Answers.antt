use Rattle.std.proofs.lemmas.Result.{err_from_is_err_and}
use Rattle.ivy_session.proofs.Advancing.{advances}
use Rattle.ivy_session.proofs.refreshing.advance.Goals as goal

pub returns-in_err-take_all-clause-wanted : goal.returns-in_err-take_all-clause-wanted
returns-in_err-take_all-clause-wanted g c = let p = err_from_is_err_and c.from_residual.result c.from_residual.ensures.1 in rw p.1 c.in_err-take_all.ensures.taken

pub returns-clause-wanted : goal.returns-clause-wanted
returns-clause-wanted g c = advances g.J.Judge.judges c.args.refresh.now c.take_all.new.refresh c.next.new.self c.args.cache.now c.take_all.new.cache c.in_ok-take_all.ensures.taken c.next.result c.next.ensures.wanted
