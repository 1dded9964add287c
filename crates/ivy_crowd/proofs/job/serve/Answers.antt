use Rattle.agent_gate.specs.Taking.{kind_of}
use Rattle.ivy_crowd.specs.Sessions.{serving_by}
use Rattle.ivy_crowd.proofs.Served.{came_back, ends_so}
use Rattle.ivy_crowd.proofs.job.serve.Goals as goal

pub is_done-requires : goal.is_done-requires
is_done-requires g c =
    let kind = kind_of g.S.Signs.signing g.S.Signs.is_whole g.K.Keeper.saves in
    ends_so (serving_by kind c.args.gate.now c.args.ring.now g.C.Clock.gives) c.args.job _ c.whole_calls_are_done.ensures c.requires
    c.serve_link-how.ensures.served

pub returns : goal.returns
returns g c =
    let kind = kind_of g.S.Signs.signing g.S.Signs.is_whole g.K.Keeper.saves in
    came_back (serving_by kind c.args.gate.now c.args.ring.now g.C.Clock.gives) c.args.job _ c.requires c.serve_link-how.ensures.served
    c.in_ok-is_done.ensures
