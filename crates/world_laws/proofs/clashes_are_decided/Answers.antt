use Rattle.world_laws.proofs.Apart.{clash_is_decided}
use Rattle.world_laws.proofs.clashes_are_decided.Goals as goal

pub returns : goal.returns
returns c = clash_is_decided
