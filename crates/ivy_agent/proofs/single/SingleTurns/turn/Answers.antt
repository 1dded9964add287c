use Rattle.std.proofs.Common.{refl}
use Rattle.ivy_agent.proofs.Untold.{untold}
use Rattle.ivy_agent.proofs.Views.{turn_keeps_view}
use Rattle.ivy_agent.proofs.single.SingleTurns.turn.Goals as goal

pub returns-clause-turn : goal.returns-clause-turn
returns-clause-turn g c = record { found = c.args.pass.now; after = c.turn_alone.new.agent; came = refl; left = refl; in_view = refl; turn = c.turn_alone.ensures.turn }

pub returns-clause-made : goal.returns-clause-made
returns-clause-made g c = untold c.args.refresh c.args.asked.now c.args.now c.turn_alone.result

pub returns-clause-view : goal.returns-clause-view
returns-clause-view g c = turn_keeps_view _ _ _ _ _ _ _ _ c.args.refresh.batch _ _ c.requires.batch c.turn_alone.ensures.turn
