use Rattle.log_fetch.specs.Standings.{asked_of}
use Rattle.replay_engine.specs.Engines.{holding}
use Rattle.ivy_agent.proofs.Drawn.{drawn}
use Rattle.ivy_agent.proofs.writing.write.Goals as goal

pub returns-clause-done : goal.returns-clause-done
returns-clause-done g c = drawn g.S.Signs.signing g.S.Signs.is_whole g.K.Keeper.saves (asked_of c.args.asked.now) c.args.now c.args.ops.now c.args.kept.now _ (holding c.args.engine.now) _ c.args.front c.args.keeper.now _ c.args.applied _ c.in_ok-prepared.prepared.draft
    c.in_ok-prepared.ensures.draft c.in_ok-prepared.ensures.count _ _ c.commit.ensures.done
