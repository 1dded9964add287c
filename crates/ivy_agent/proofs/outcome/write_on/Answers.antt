use Rattle.std.proofs.Common.{sym, ◌∙◌}
use Rattle.log_fetch.specs.Standings.{asked_of}
use Rattle.replay_engine.specs.Engines.{holding}
use Rattle.ivy_agent.proofs.Planned.{answered, behind_written, few_written, left_to_write, row_written}
use Rattle.ivy_agent.proofs.outcome.write_on.Goals as goal

pub write-requires-clause-few : goal.write-requires-clause-few
write-requires-clause-few g c = few_written g.S.Signs.signing (asked_of c.args.asked.now) c.args.now c.args.kept.now c.args.has_failed (holding c.args.engine.now) c.args.front c.args.ops.now c.requires.log _ c.requires.served

pub write-requires-clause-is_left : goal.write-requires-clause-is_left
write-requires-clause-is_left g c = left_to_write g.S.Signs.signing (asked_of c.args.asked.now) c.args.now c.args.kept.now c.args.has_failed (holding c.args.engine.now) c.args.front c.args.ops.now c.requires.log _ c.requires.served

pub write-requires-clause-row : goal.write-requires-clause-row
write-requires-clause-row g c = row_written g.S.Signs.signing (asked_of c.args.asked.now) c.args.now c.args.kept.now c.args.has_failed (holding c.args.engine.now) c.args.front c.args.ops.now c.requires.log _ c.requires.served c.requires.call c.requires.view c.len.ensures.fits (sym c.seq_of.ensures ∙ c.if-seq_of.false ∙ c.seq_of-2.ensures) c.requires.held c.requires.front

pub write-requires-clause-behind : goal.write-requires-clause-behind
write-requires-clause-behind g c = behind_written g.S.Signs.signing (asked_of c.args.asked.now) c.args.now c.args.kept.now c.args.has_failed (holding c.args.engine.now) c.args.front c.args.ops.now c.requires.log _ c.requires.served c.requires.call c.requires.view c.len.ensures.fits (sym c.seq_of.ensures ∙ c.if-seq_of.false ∙ c.seq_of-2.ensures) c.requires.held c.requires.front

pub returns-clause-done : goal.returns-clause-done
returns-clause-done g c = answered g.S.Signs.signing (asked_of c.args.asked.now) c.args.now c.args.kept.now c.args.has_failed (holding c.args.engine.now) c.args.front c.args.ops.now c.requires.log g.S.Signs.is_whole g.K.Keeper.saves _ _ c.args.keeper.now _ c.args.applied (sym c.seq_of.ensures ∙ c.if-seq_of.false ∙ c.seq_of-2.ensures) _ c.requires.served _ c.write.ensures.done
