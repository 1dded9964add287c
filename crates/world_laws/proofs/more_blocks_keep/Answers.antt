use Rattle.world_laws.proofs.Frames.{more_blocks_keep}
use Rattle.world_laws.proofs.more_blocks_keep.Goals as goal

pub returns : goal.returns
returns c = more_blocks_keep
