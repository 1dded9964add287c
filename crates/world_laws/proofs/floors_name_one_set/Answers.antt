use Rattle.world_laws.proofs.OneKnown.{known_is_unique}
use Rattle.world_laws.proofs.floors_name_one_set.Goals as goal

pub returns : goal.returns
returns c = known_is_unique
