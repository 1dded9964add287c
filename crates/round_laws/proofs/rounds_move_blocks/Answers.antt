use Rattle.round_laws.proofs.Settling.{blocks_move, round_moves_blocks}
use Rattle.round_laws.proofs.rounds_move_blocks.Goals as goal

pub returns : goal.returns
returns c = record { part = blocks_move; whole = round_moves_blocks }
