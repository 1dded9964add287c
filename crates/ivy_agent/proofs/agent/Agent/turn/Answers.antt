use Rattle.log_fetch.specs.Standings.{asked_of, refresh_of}
use Rattle.std.proofs.Common.{refl}
use Rattle.ivy_agent.specs.Turns.{IsFetchedIn}
use Rattle.ivy_agent.proofs.Refused.{ends_answered, ends_refused, gives_pending}
use Rattle.ivy_agent.proofs.agent.Agent.turn.Goals as goal

pub with_names-requires : goal.with_names-requires
with_names-requires g c = gives_pending g.S.Signs.signing g.S.Signs.is_whole g.K.Keeper.saves (asked_of c.args.asked.now) c.args.now c.args.self.now (refresh_of c.args.refresh) c.in-Ok.turned c.take_turn.new.self (λ view. IsFetchedIn view c.args.refresh.batch) c.args.self.now.agent.view c.requires.batch c.in-Ok.ensures.turn

pub returns-in-Ok-clause-turn : goal.returns-in-Ok-clause-turn
returns-in-Ok-clause-turn g c = rw (c.with_names.ensures.given, c.with_names.ensures.same) (ends_answered g.S.Signs.signing g.S.Signs.is_whole g.K.Keeper.saves (asked_of c.args.asked.now) c.args.now c.args.self.now (refresh_of c.args.refresh) c.in-Ok.turned c.take_turn.new.self c.args.self.now.agent.view c.in-Ok.ensures.turn)

pub returns-in-Err-clause-turn : goal.returns-in-Err-clause-turn
returns-in-Err-clause-turn g c = ends_refused g.S.Signs.signing g.S.Signs.is_whole g.K.Keeper.saves (asked_of c.args.asked.now) c.args.now c.args.self.now (refresh_of c.args.refresh) c.in-Err.refusal c.refuse.result c.take_turn.new.self c.refuse.new.self c.args.self.now.agent.view refl c.in-Err.ensures.turn c.refuse.ensures
