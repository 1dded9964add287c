use Rattle.std.proofs.Common.{Option, sym, subst}
use Rattle.log_model.specs.View.{View}
use Rattle.play_trials.specs.InProgress.{GoesOn, judges}
use Rattle.play_trials.proofs.InProgress.{turn_is_again, turned_in_progress}
use Rattle.play_trials.proofs.sessions.driving.turn.Goals as goal

pub turn-turned-requires-clause-batch : goal.turn-turned-requires-clause-batch
turn-turned-requires-clause-batch g c = c.requires.may.batch

pub turn-turned-requires-clause-bounds : goal.turn-turned-requires-clause-bounds
turn-turned-requires-clause-bounds g c = c.requires.may.bounds

pub turn-turned-requires-clause-call : goal.turn-turned-requires-clause-call
turn-turned-requires-clause-call g c = c.requires.may.is_call c.in-Some.asked.now c.args.now (sym c.in-Some.ensures) c.requires.moment

pub turned-requires-clause-turning : goal.turned-requires-clause-turning
turned-requires-clause-turning g c = c.requires.may.waits

pub turned-requires-clause-short : goal.turned-requires-clause-short
turned-requires-clause-short g c = c.turn-turned.ensures.short

pub turned-requires-clause-anew : goal.turned-requires-clause-anew
turned-requires-clause-anew g c = turn_is_again judges (g.T.Turns.view c.args.turns.now c.args.pass.now) c.args.session.now c.args.session.now c.requires.may.in_progress _ _ _ c.args.refresh c.in-Some.asked.now c.args.now
    c.turn-turned.ensures.turn.found c.turn-turned.ensures.turn.after c.turn-turned.result c.turn-turned.ensures.turn.turn

pub returns-clause-goes_on : goal.returns-clause-goes_on
returns-clause-goes_on g c = subst (λ (view : Option View). GoesOn judges view c.turned.new.self) (sym c.turn-turned.ensures.view) (record {
  in_progress = turned_in_progress judges (g.T.Turns.view c.args.turns.now c.args.pass.now) c.args.session.now c.turned.new.self c.requires.may.in_progress _ _ _ c.args.refresh c.in-Some.asked.now c.args.now c.turn-turned.ensures.turn.found
      c.turn-turned.ensures.turn.after c.turn-turned.result c.turn-turned.ensures.turn.turn c.turned.ensures.turned;
  no_turn = c.turned.ensures.turning;
})
