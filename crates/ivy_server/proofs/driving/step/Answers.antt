use Rattle.std.proofs.Common.{refl, ap}
use Rattle.ivy_server.specs.Sessions.{place_of}
use Rattle.ivy_server.proofs.Steps.{ask_is_awaited, ask_is_for_data, ask_steps, done_steps, settle_steps, turn_may_be, turn_steps}
use Rattle.ivy_server.proofs.driving.step.Goals as goal

pub ask-requires-clause-awaited : goal.ask-requires-clause-awaited
ask-requires-clause-awaited g c = ask_is_awaited (place_of (g.M.Mesh.owners_of_a_key c.args.mesh.now) (g.M.Mesh.made c.args.mesh.now) (g.T.Turns.view c.args.turns.now c.args.pass.now))
    (record { session = c.args.session.now; cache = c.args.cache.now }) c.requires.in_progress (record { session = c.next.new.self; cache = c.next.new.cache }) c.in-Ask.node c.in-Ask.question c.in-Ask.ensures.wanted

pub ask-requires-clause-data : goal.ask-requires-clause-data
ask-requires-clause-data g c = ask_is_for_data (place_of (g.M.Mesh.owners_of_a_key c.args.mesh.now) (g.M.Mesh.made c.args.mesh.now) (g.T.Turns.view c.args.turns.now c.args.pass.now))
    (record { session = c.args.session.now; cache = c.args.cache.now }) c.requires.in_progress (record { session = c.next.new.self; cache = c.next.new.cache }) c.in-Ask.node c.in-Ask.question c.in-Ask.ensures.wanted

pub turn-requires-clause-may : goal.turn-requires-clause-may
turn-requires-clause-may g c κs outlives = turn_may_be (place_of (g.M.Mesh.owners_of_a_key c.args.mesh.now) (g.M.Mesh.made c.args.mesh.now) (g.T.Turns.view c.args.turns.now c.args.pass.now))
    (record { session = c.args.session.now; cache = c.args.cache.now }) c.requires.in_progress (record { session = c.next.new.self; cache = c.next.new.cache }) c.in-Turn.refresh c.in-Turn.ensures.wanted

pub returns-in-Ask-clause-steps : goal.returns-in-Ask-clause-steps
returns-in-Ask-clause-steps g c = ask_steps _ (record { session = c.args.session.now; cache = c.args.cache.now }) (record { session = c.next.new.self; cache = c.next.new.cache })
    (record { session = c.ask.new.session; cache = c.ask.new.cache }) _ _ c.in-Ask.node c.in-Ask.question c.in-Ask.ensures.wanted c.in-Ask.ensures.cut c.ask.ensures.heard c.ask.ensures.turning

pub returns-in-Turn-clause-steps : goal.returns-in-Turn-clause-steps
returns-in-Turn-clause-steps g c = turn_steps _ (record { session = c.args.session.now; cache = c.args.cache.now }) (record { session = c.next.new.self; cache = c.next.new.cache })
    (record { session = c.turn.new.session; cache = c.next.new.cache }) _ _ c.in-Turn.refresh c.in-Turn.ensures.wanted c.in-Turn.ensures.cut refl
    (c.turn.ensures.turned (g.M.Mesh.owners_of_a_key c.args.mesh.now) (g.M.Mesh.made c.args.mesh.now) (g.M.Mesh.trail c.args.mesh.now)) c.turn.ensures.turning

pub returns-in-Settle-clause-steps : goal.returns-in-Settle-clause-steps
returns-in-Settle-clause-steps g c = settle_steps _ (record { session = c.args.session.now; cache = c.args.cache.now }) (record { session = c.next.new.self; cache = c.next.new.cache })
    (record { session = c.next.new.self; cache = c.next.new.cache }) _ _ c.in-Settle.acks c.in-Settle.ensures.wanted c.in-Settle.ensures.cut c.settle.ensures.settles
    (ap (λ made. record { made = made; trail = g.M.Mesh.trail c.args.mesh.now; clock = c.args.clock.now }) c.settle.ensures.made)

pub returns-in-Done-clause-steps : goal.returns-in-Done-clause-steps
returns-in-Done-clause-steps g c = done_steps _ (record { session = c.args.session.now; cache = c.args.cache.now }) (record { session = c.next.new.self; cache = c.next.new.cache })
    (record { session = c.next.new.self; cache = c.next.new.cache }) _ c.in-Done.served c.in-Done.ensures.wanted c.in-Done.ensures.cut
