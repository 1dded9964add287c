use Rattle.world_laws.proofs.SignedHeads.{heads_are_saved_first}
use Rattle.world_laws.proofs.heads_are_saved_first.Goals as goal

pub returns : goal.returns
returns c = heads_are_saved_first
