use Rattle.world_laws.proofs.OneFront.{front_is_of_one}
use Rattle.world_laws.proofs.fronts_name_one_part.Goals as goal

pub returns : goal.returns
returns c = front_is_of_one
