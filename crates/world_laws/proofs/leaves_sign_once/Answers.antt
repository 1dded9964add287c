use Rattle.world_laws.proofs.SignedHeads.{leaf_signs_once}
use Rattle.world_laws.proofs.leaves_sign_once.Goals as goal

pub returns : goal.returns
returns c = leaf_signs_once
