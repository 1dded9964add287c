use Rattle.std.proofs.Common.{◌≤◌}
use Rattle.view_refresh.specs.States.{refresh_left}
use Rattle.ivy_session.proofs.Taken.{HasTakenSome}
use Rattle.ivy_session.proofs.hand.take_all.Given as goal

abbrev pub invariant-blocks-2 : goal.invariant-blocks-2
invariant-blocks-2 g l = record {
  taken : HasTakenSome g.J.Judge.judges l.initial.refresh l.refresh l.initial.cache l.cache;
  left : refresh_left l.refresh ≤ refresh_left l.initial.refresh;
}

abbrev pub decreases-blocks-2 : goal.decreases-blocks-2
decreases-blocks-2 g l = refresh_left l.refresh
