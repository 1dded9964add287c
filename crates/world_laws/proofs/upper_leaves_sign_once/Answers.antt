use Rattle.world_laws.proofs.Leaves.{upper_leaves_sign_once}
use Rattle.world_laws.proofs.upper_leaves_sign_once.Goals as goal

pub returns : goal.returns
returns c = upper_leaves_sign_once
