use Rattle.agent_gate.specs.Taking.{kind_of}
use Rattle.ivy_crowd.specs.Sessions.{serving_by}
use Rattle.ivy_crowd.proofs.Served.{all_fit, all_parts, have_run}
use Rattle.ivy_crowd.proofs.running.run_all.Goals as goal

pub close-requires : goal.close-requires
close-requires g c =
    let kind = kind_of g.S.Signs.signing g.S.Signs.is_whole g.K.Keeper.saves in
    all_fit (serving_by kind c.args.gate c.args.ring.now g.C.Clock.gives) c.args.first c.args.jobs.items c.in_ok-ended.ended.items
    c.in_ok-passes.passes.items c.requires.first.0 c.in_ok-ended.ensures c.in_ok-passes.ensures

pub unreachable-requires : goal.unreachable-requires
unreachable-requires g c =
    let kind = kind_of g.S.Signs.signing g.S.Signs.is_whole g.K.Keeper.saves in
    let all = all_parts (serving_by kind c.args.gate c.args.ring.now g.C.Clock.gives) c.args.first c.args.jobs.items
    c.in_ok-ended.ended.items c.in_ok-passes.passes.items c.in_ok-ended.ensures c.in_ok-passes.ensures c.requires.parts in
    absurd (c.in-Err.ensures.unclosed.0 all)

pub returns : goal.returns
returns g c =
    let kind = kind_of g.S.Signs.signing g.S.Signs.is_whole g.K.Keeper.saves in
    have_run (serving_by kind c.args.gate c.args.ring.now g.C.Clock.gives) c.args.first c.args.jobs.items c.in_ok-ended.ended.items
    c.in_ok-passes.passes.items c.in-Ok.closed.agent c.in-Ok.closed.turns c.requires.first.1 c.in_ok-ended.ensures c.in_ok-passes.ensures
    c.in-Ok.ensures.closed.1
