use Rattle.world_laws.proofs.HeadlineOfLines.{others_have_no_turn}
use Rattle.world_laws.proofs.other_lines_have_no_turn.Goals as goal

pub returns : goal.returns
returns c = others_have_no_turn
