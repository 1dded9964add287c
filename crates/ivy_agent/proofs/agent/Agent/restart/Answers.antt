use Rattle.ivy_agent.proofs.Caused.{restored_caused}
use Rattle.ivy_agent.proofs.Restarted.{restarts}
use Rattle.ivy_agent.proofs.agent.Agent.restart.Goals as goal

pub returns-in-Ok-clause-restarts : goal.returns-in-Ok-clause-restarts
returns-in-Ok-clause-restarts g c = restarts
    g.S.Signs.signing g.S.Signs.is_whole g.K.Keeper.kept g.K.Keeper.faults c.args.keeper c.load.new.self c.as_slice.result.now
    c.in-Ok.ensures.bytes.0 c.in-Ok.ensures.cause (rw c.as_slice.ensures c.in-Ok.ensures.bytes.1) c.restore.result c.restore.ensures

pub returns-in-Ok-clause-cause : goal.returns-in-Ok-clause-cause
returns-in-Ok-clause-cause g c = restored_caused g.S.Signs.signing g.S.Signs.is_whole g.K.Keeper.faults c.args.keeper c.load.new.self c.as_slice.result.now c.restore.result c.restore.ensures
