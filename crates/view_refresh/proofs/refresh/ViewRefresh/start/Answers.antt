use Rattle.view_refresh.proofs.Beginning.{starts_after, starts_holding}
use Rattle.view_refresh.proofs.Falling.{first_left}
use Rattle.view_refresh.proofs.refresh.ViewRefresh.start.Goals as goal

pub invariant_of-result : goal.invariant_of-result
invariant_of-result g c =
    starts_holding g.J.Judge.judges c.args.judge c.args.replicas c.args.entries c.taken_apart-standing.result.2 c.in_ok-state.state c.args.standing c.taken_apart-standing.result.0 c.taken_apart-standing.result.1 c.in_ok-state.ensures.free
    c.taken_apart-standing.ensures.1 c.taken_apart-standing.ensures.2 c.requires c.in_ok-state.ensures.loads

pub returns-clause-started : goal.returns-clause-started
returns-clause-started g c =
    starts_after g.J.Judge.judges c.args.judge c.args.replicas c.args.entries c.taken_apart-standing.result.2 c.in_ok-state.state c.args.standing c.taken_apart-standing.result.0 c.taken_apart-standing.result.1 c.in_ok-state.ensures.free
    c.taken_apart-standing.ensures.0 c.taken_apart-standing.ensures.1 c.taken_apart-standing.ensures.2

pub returns-clause-left : goal.returns-clause-left
returns-clause-left g c = first_left _ c.in_ok-state.ensures.free.left
