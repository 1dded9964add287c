use Rattle.std.proofs.lemmas.Result.{err_from_is_err_and}
use Rattle.log_fetch.specs.Standings.{asked_of}
use Rattle.ivy_agent.specs.Turns.{IsFetchedIn}
use Rattle.ivy_agent.proofs.Ended.{refused_here, sound_here, turned_here}
use Rattle.ivy_agent.proofs.Going.{from_here, well_here}
use Rattle.ivy_agent.proofs.agent.Agent.turn_here.Goals as goal

pub turn_on-requires-clause-from : goal.turn_on-requires-clause-from
turn_on-requires-clause-from g c = from_here g.S.Signs.signing c.self.inside.kept c.self.inside.engine c.self.inside.to_load c.self.inside.has_failed c.self.inside.keeper c.args.self.now c.self.view_is c.self.inside.front c.self.invariant c.args.batch c.requires.batch

pub turn_on-requires-clause-well : goal.turn_on-requires-clause-well
turn_on-requires-clause-well g c = well_here g.S.Signs.signing c.self.inside.kept c.self.inside.engine c.self.inside.to_load c.self.inside.has_failed c.self.inside.keeper c.args.self.now c.self.view_is c.self.inside.front c.self.invariant c.args.batch (λ a view. IsFetchedIn view c.args.batch) c.requires.batch

pub returns-clause-turn : goal.returns-clause-turn
returns-clause-turn g c = turned_here g.S.Signs.signing g.S.Signs.is_whole g.K.Keeper.saves (asked_of c.args.asked.now) c.args.now c.self.inside.kept c.self.inside.engine c.self.inside.to_load c.self.inside.has_failed c.self.inside.keeper c.args.self.now c.self.view_is c.self.inside.front c.self.invariant c.args.batch c.requires.call c.turn_on.new.kept c.turn_on.new.engine c.turn_on.new.keeper c.in_ok-done.done
    (from_here g.S.Signs.signing c.self.inside.kept c.self.inside.engine c.self.inside.to_load c.self.inside.has_failed c.self.inside.keeper c.args.self.now c.self.view_is c.self.inside.front c.self.invariant c.args.batch c.requires.batch) c.in_ok-done.ensures.turned

pub invariant_of-self-2 : goal.invariant_of-self-2
invariant_of-self-2 g c = sound_here g.S.Signs.signing g.S.Signs.is_whole g.K.Keeper.saves (asked_of c.args.asked.now) c.args.now c.self.inside.kept c.self.inside.engine c.self.inside.to_load c.self.inside.has_failed c.self.inside.keeper c.args.self.now c.self.view_is c.self.inside.front c.self.invariant c.args.batch c.requires.call c.turn_on.new.kept c.turn_on.new.engine c.turn_on.new.keeper c.in_ok-done.done (from_here g.S.Signs.signing c.self.inside.kept c.self.inside.engine c.self.inside.to_load c.self.inside.has_failed c.self.inside.keeper c.args.self.now c.self.view_is c.self.inside.front c.self.invariant c.args.batch c.requires.batch) c.in_ok-done.ensures.turned

pub returns-in_err-done-clause-turn : goal.returns-in_err-done-clause-turn
returns-in_err-done-clause-turn g c =
    let p = err_from_is_err_and c.from_residual.result c.from_residual.ensures.1 in
    rw (p.1, p.2) (refused_here g.S.Signs.signing g.S.Signs.is_whole g.K.Keeper.saves (asked_of c.args.asked.now) c.args.now c.self.inside.kept c.self.inside.engine c.self.inside.to_load c.self.inside.has_failed c.self.inside.keeper c.args.self.now c.self.view_is c.self.inside.front c.self.invariant c.args.batch c.turn_on.new.kept c.turn_on.new.engine c.turn_on.new.keeper c.in_err-done.ensures.kept c.in_err-done.ensures.engine c.in_err-done.ensures.keeper _ c.in_err-done.field-0.0 c.in_err-done.ensures.turned)
