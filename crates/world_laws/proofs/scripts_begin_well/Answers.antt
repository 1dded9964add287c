use Rattle.world_laws.proofs.FirstWorld.{empty_keeps}
use Rattle.world_laws.proofs.scripts_begin_well.Goals as goal

pub returns : goal.returns
returns c = empty_keeps
