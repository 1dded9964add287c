use Rattle.std.proofs.Common.{Option, sym, subst}
use Rattle.log_model.specs.View.{View}
use Rattle.play_trials.specs.InProgress.{GoesOn, judges}
use Rattle.play_trials.proofs.sessions.driving.step.Goals as goal

pub next-requires : goal.next-requires
next-requires g c = (g.T.Turns.view c.args.turns.now c.args.pass.now, c.requires.goes_on)

pub ask-requires : goal.ask-requires
ask-requires g c = (c.in-Ask.ensures (g.T.Turns.view c.args.turns.now c.args.pass.now) c.requires.goes_on).waits

pub turn-requires-clause-may : goal.turn-requires-clause-may
turn-requires-clause-may g c = c.in-Turn.ensures (g.T.Turns.view c.args.turns.now c.args.pass.now) c.requires.goes_on

pub returns-in-Ask-clause-goes_on : goal.returns-in-Ask-clause-goes_on
returns-in-Ask-clause-goes_on g c = λ ended. c.ask.ensures (g.T.Turns.view c.args.turns.now c.args.pass.now) (c.in-Ask.ensures (g.T.Turns.view c.args.turns.now c.args.pass.now) c.requires.goes_on)

pub returns-in-Turn-clause-goes_on : goal.returns-in-Turn-clause-goes_on
returns-in-Turn-clause-goes_on g c = λ ended. c.turn.ensures.goes_on

pub returns-in-Settle-clause-goes_on : goal.returns-in-Settle-clause-goes_on
returns-in-Settle-clause-goes_on g c = λ ended. subst (λ (view : Option View). GoesOn judges view c.next.new.session) (sym c.settle.ensures.view)
    (c.in-Settle.ensures (g.T.Turns.view c.args.turns.now c.args.pass.now) c.requires.goes_on)
