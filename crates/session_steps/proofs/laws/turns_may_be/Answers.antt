use Rattle.session_steps.proofs.TurnSteps.{agents_give_turns, batches_are_fetched, refusals_are_fresh, turns_may_be}
use Rattle.session_steps.proofs.laws.turns_may_be.Goals as goal

pub returns : goal.returns
returns g c = record { batch = batches_are_fetched; turn = turns_may_be; agent = agents_give_turns; refusal = refusals_are_fresh }
