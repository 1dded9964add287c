use Rattle.std.proofs.Common.{subst}
use Rattle.view_refresh.specs.Steps.{RefreshIsWanted}
use Rattle.ivy_session.proofs.Failing.{is_failure}
use Rattle.ivy_session.proofs.refreshing.failure.Goals as goal

pub returns-in-Ok-Done : goal.returns-in-Ok-Done
returns-in-Ok-Done g c =
    is_failure g.J.Judge.judges c.args.refresh.now c.next.new.self c.in-Ok-Done.refreshed (subst (RefreshIsWanted g.J.Judge.judges c.args.refresh.now c.next.new.self) c.in-Ok-Done.field-0-is c.in-Ok-Done.ensures.wanted) c.miss_in.result c.miss_in.ensures
