use Rattle.world_laws.proofs.OtherTurns.{other_turns}
use Rattle.world_laws.proofs.other_logs_change_no_turn.Goals as goal

pub returns : goal.returns
returns c = other_turns
