use Rattle.calm_laws.proofs.Durable.{round_moves_blocks}
use Rattle.calm_laws.proofs.rounds_move_all_blocks.Goals as goal

pub returns : goal.returns
returns c = round_moves_blocks
