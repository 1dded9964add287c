use Rattle.log_fetch.specs.Standings.{asked_of}
use Rattle.ivy_agent.proofs.Absorbed.{answered_with, row_with}
use Rattle.ivy_agent.proofs.taking.answer_with.Goals as goal

pub answer-requires-clause-held : goal.answer-requires-clause-held
answer-requires-clause-held g c = row_with c.args.engine.now _ c.args.new.items c.requires.held c.requires.row c.in_ok-applied.ensures.ok

pub returns-in-Ok-clause-done : goal.returns-in-Ok-clause-done
returns-in-Ok-clause-done g c = answered_with c.args.engine.now _ c.args.new.items c.requires.held c.requires.row c.in_ok-applied.ensures.ok c.requires.new c.in_ok-applied.applied c.in_ok-applied.ensures.count
    g.S.Signs.signing g.S.Signs.is_whole g.K.Keeper.saves (asked_of c.args.asked.now) c.args.now c.args.kept.now c.args.has_failed c.args.front c.args.keeper.now _ _ _ c.in-Ok.done _ c.in-Ok.ensures.done
