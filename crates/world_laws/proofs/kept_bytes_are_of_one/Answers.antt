use Rattle.world_laws.proofs.KeptBytes.{kept_once}
use Rattle.world_laws.proofs.kept_bytes_are_of_one.Goals as goal

pub returns : goal.returns
returns c = kept_once
