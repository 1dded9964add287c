use Rattle.std.proofs.Common.{sym}
use Rattle.ivy_session.proofs.Hears.{refresh_hears}
use Rattle.ivy_session.proofs.refreshing.hear.Goals as goal

pub returns-clause-heard : goal.returns-clause-heard
returns-clause-heard g c =
    refresh_hears g.J.Judge.judges c.args.refresh.now c.heard.new.self c.args.cache.now c.in_ok-block.block c.in_ok-answer.field-0 c.in_ok-block.ensures.heard c.keep_back.new.cache c.failed.result c.args.answer c.in_ok-answer.was c.in_ok-keep_back.ensures.kept (sym c.failed.ensures)
