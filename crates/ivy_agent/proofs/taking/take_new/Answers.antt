use Rattle.std.proofs.Common.{sym}
use Rattle.replay_engine.specs.Engines.{holding}
use Rattle.ivy_agent.proofs.Drafting.{owner_is}
use Rattle.ivy_agent.proofs.Takes.{takes_in}
use Rattle.ivy_agent.proofs.taking.take_new.Goals as goal

pub returns : goal.returns
returns g c = takes_in _ c.args.batch (holding c.args.engine.now) c.take.result c.take.ensures c.args.kept.now.view c.in-Some.is _
    (owner_is g.S.Signs.signing c.args.kept.now.signer c.owner-own.result c.owner-own.ensures)
    (record { base = sym c.basis_front.ensures; records = sym c.records.ensures.records })
