use Rattle.world_laws.proofs.SecondTurns.{second_turn_is_answered}
use Rattle.world_laws.proofs.second_turns_are_answered.Goals as goal

pub returns : goal.returns
returns c = second_turn_is_answered
