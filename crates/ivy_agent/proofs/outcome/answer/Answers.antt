use Rattle.log_fetch.specs.Standings.{asked_of}
use Rattle.replay_engine.specs.Engines.{holding}
use Rattle.ivy_agent.proofs.Planned.{replied}
use Rattle.ivy_agent.proofs.outcome.answer.Goals as goal

pub returns-in-Replies-clause-done : goal.returns-in-Replies-clause-done
returns-in-Replies-clause-done g c = replied g.S.Signs.signing (asked_of c.args.asked.now) c.args.now c.args.kept.now c.args.has_failed (holding c.args.engine.now) c.args.front g.S.Signs.is_whole g.K.Keeper.saves _ c.args.keeper.now c.args.applied c.in-Replies.given _ (rw c.in-Replies.is at c.in_ok-served.ensures) _ c.reply_on.ensures.kept c.reply_on.ensures.front c.reply_on.ensures.failed c.reply_on.ensures.given
