use Rattle.log_fetch.specs.Standings.{asked_of}
use Rattle.replay_engine.specs.Engines.{holding}
use Rattle.ivy_agent.proofs.Committed.{has_written, was_lost}
use Rattle.ivy_agent.proofs.writing.commit.Goals as goal

pub returns-in-Ok-clause-done : goal.returns-in-Ok-clause-done
returns-in-Ok-clause-done g c = has_written g.S.Signs.signing g.S.Signs.is_whole g.K.Keeper.saves (asked_of c.args.asked.now) c.args.ops.now c.args.kept.now _ c.args.engine.now _ c.args.front c.args.keeper.now _ c.args.applied c.args.draft c.in-Ok.turned
    c.requires.held c.requires.row c.requires.behind c.in-Ok.ensures.taken c.in-Ok.ensures.whole c.in-Ok.ensures.saved c.in-Ok.ensures.ok _ c.in-Ok.ensures.given

pub returns-in-Err-Keeper-clause-done : goal.returns-in-Err-Keeper-clause-done
returns-in-Err-Keeper-clause-done g c = was_lost g.S.Signs.signing g.S.Signs.is_whole g.K.Keeper.saves (asked_of c.args.asked.now) c.args.ops.now c.args.kept.now _ _ (holding c.args.engine.now) _ c.args.front c.args.keeper.now _ c.args.applied c.args.draft c.args.lost _
    (rw c.in-Err-Keeper.field-0-is at c.in-Err-Keeper.ensures.whole) (rw c.in-Err-Keeper.field-0-is at c.in-Err-Keeper.ensures.saved) c.in-Err-Keeper.ensures.err c.stand.ensures.kept c.requires.floor c.in-Err-Keeper.ensures.engine.now c.requires.given c.stand.ensures.given
    c.args.kept.now.view
