use Rattle.world_laws.proofs.Growing.{met_grows}
use Rattle.world_laws.proofs.met_blocks_stay.Goals as goal

pub returns : goal.returns
returns c = met_grows
