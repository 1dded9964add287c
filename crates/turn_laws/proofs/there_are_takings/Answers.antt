use Rattle.turn_laws.proofs.There.{there_is_a_taking}
use Rattle.turn_laws.proofs.there_are_takings.Goals as goal

pub returns : goal.returns
returns c = there_is_a_taking
