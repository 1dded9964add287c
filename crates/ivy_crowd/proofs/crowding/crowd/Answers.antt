use Rattle.std.proofs.Common.{refl}
use Rattle.ivy_crowd.specs.Crowds.{Asked}
use Rattle.ivy_crowd.proofs.Coming.{has_come, opened_in_view, run_in_view}
use Rattle.ivy_crowd.proofs.crowding.crowd.Goals as goal

pub run-requires-clause-entered : goal.run-requires-clause-entered
run-requires-clause-entered g c κs outlives = opened_in_view c.moment-at.result c.in_ok-opened.opened c.in_ok-opened.ensures

pub newest-requires : goal.newest-requires
newest-requires g c =
    let entered = opened_in_view c.moment-at.result c.in_ok-opened.opened c.in_ok-opened.ensures in
    run_in_view _ _ _ c.in_ok-opened.opened.agent c.in_ok-closed.closed c.in_ok-closed.ensures entered

pub returns : goal.returns
returns g c =
    let asked : Asked g.row.C.Denot = record {
      threads = c.args.threads;
      calls = c.args.calls;
      gives = g.C.Clock.gives;
      moment = g.C.Clock.moment;
      before = c.args.clock.now;
      after = c.moment-at.new.clock;
    } in
    has_come asked c.moment-at.ensures.0 c.moment-at.result c.in_ok-opened.opened c.in_ok-ring.ring c.in_ok-closed.closed _
    c.moment-at.ensures.1 c.moment-at.ensures.2 c.in_ok-opened.ensures c.in_ok-ring.ensures c.in_ok-closed.ensures refl c.files.ensures
    c.in_ok-last.ensures
