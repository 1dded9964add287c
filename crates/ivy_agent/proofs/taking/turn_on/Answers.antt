use Rattle.std.proofs.Common.{subst}
use Rattle.version_vectors.specs.Vectors.{IsVector}
use Rattle.log_fetch.specs.Standings.{asked_of}
use Rattle.replay_engine.specs.Engines.{holding}
use Rattle.ivy_agent.proofs.Answered.{may_answer, new_taken, row_held, row_taken, turned}
use Rattle.ivy_agent.proofs.Caused.{caused}
use Rattle.ivy_agent.proofs.taking.turn_on.Goals as goal

pub answer_with-answered-requires-clause-view : goal.answer_with-answered-requires-clause-view
answer_with-answered-requires-clause-view g c = may_answer g.S.Signs.signing c.args.kept.now (holding c.args.engine.now) c.args.batch _ _ _ (rw c.in-New.is at c.in-Ok.ensures) c.requires.from c.requires.well

pub answer_with-answered-requires-clause-row : goal.answer_with-answered-requires-clause-row
answer_with-answered-requires-clause-row g c = row_taken g.S.Signs.signing c.args.kept.now (holding c.args.engine.now) c.args.batch _ _ _ (rw c.in-New.is at c.in-Ok.ensures) c.requires.from

pub answer_with-answered-requires-clause-held : goal.answer_with-answered-requires-clause-held
answer_with-answered-requires-clause-held g c = row_held g.S.Signs.signing c.args.kept.now (holding c.args.engine.now) c.args.batch _ c.requires.from

pub answer_with-answered-requires-clause-new : goal.answer_with-answered-requires-clause-new
answer_with-answered-requires-clause-new g c = new_taken g.S.Signs.signing c.args.kept.now (holding c.args.engine.now) c.args.batch _ _ _ (rw c.in-New.is at c.in-Ok.ensures) c.requires.from

pub returns-in-Ok-answered-clause-turned : goal.returns-in-Ok-answered-clause-turned
returns-in-Ok-answered-clause-turned g c = turned g.S.Signs.signing c.args.kept.now (holding c.args.engine.now) c.args.batch _ _ g.S.Signs.is_whole g.K.Keeper.saves (asked_of c.args.asked.now) c.args.now c.args.has_failed c.args.keeper.now _ _ _ _ c.results_are_short.ensures.answers c.results_are_short.ensures.plans c.results_are_short.ensures.finishes _ (rw c.in-New.is at c.in-Ok.ensures) c.requires.from c.requires.well
    (subst IsVector c.basis_front.ensures c.len.ensures.fits) c.len-in-New.ensures.fits c.in-Ok-answered.ensures.done

pub returns-in-Ok-answered-clause-cause : goal.returns-in-Ok-answered-clause-cause
returns-in-Ok-answered-clause-cause g c = caused
    g.S.Signs.signing g.S.Signs.is_whole g.K.Keeper.saves g.K.Keeper.faults g.met.K.Keeper.counts (asked_of c.args.asked.now) c.args.now c.args.kept.now c.args.has_failed _ _ c.args.keeper.now _
    _ _ _ _ _ c.args.kept.now.view c.requires.from c.in-Ok-answered.ensures.done
