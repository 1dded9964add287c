use Rattle.turn_laws.proofs.Turns.{turn_set_is_closed}
use Rattle.turn_laws.proofs.turns_leave_closed_sets.Goals as goal

pub returns : goal.returns
returns c = turn_set_is_closed
