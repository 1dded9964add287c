use Rattle.std.proofs.Common.{ap, sym, ◌∙◌}
use Rattle.ivy_session.specs.States.{asked_at}
use Rattle.session_steps.specs.Representing.{CallState}
use Rattle.session_steps.proofs.Parts.{anew_so, took_so}
use Rattle.session_steps.proofs.open.OpenCall.take_turn.Goals as goal

pub turn-requires-clause-call : goal.turn-requires-clause-call
turn-requires-clause-call g c = c.requires.is_call c.in-Some.asked.now (sym (c.in-Some.ensures ∙ ap (λ (call : CallState). asked_at call.session.stage) c.self.view_is))

pub returns-clause-took : goal.returns-clause-took
returns-clause-took g c = took_so c.args.refresh c.args.now c.turn.result c.args.who.now c.turn.new.self c.args.self.now c.self.inside.session c.in-Some.asked.now (ap (λ (call : CallState). call.session) c.self.view_is) c.in-Some.ensures
    c.turn.ensures.turn

pub returns-clause-anew : goal.returns-clause-anew
returns-clause-anew g c = anew_so c.args.refresh c.args.now c.turn.result c.args.who.now c.turn.new.self c.in-Some.asked.now c.requires.batch c.turn.ensures.turn
