use Rattle.world_laws.proofs.DoneSteps.{fresh_turns_are_answered, refresh_ends_in_turn}
use Rattle.world_laws.proofs.done_refreshes_have_turns.Goals as goal

pub returns-clause-turns : goal.returns-clause-turns
returns-clause-turns c = refresh_ends_in_turn

pub returns-clause-fresh : goal.returns-clause-fresh
returns-clause-fresh c = fresh_turns_are_answered
