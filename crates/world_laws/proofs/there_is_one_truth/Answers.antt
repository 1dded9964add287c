use Rattle.world_laws.proofs.OneTruth.{one_truth}
use Rattle.world_laws.proofs.there_is_one_truth.Goals as goal

pub returns : goal.returns
returns c = one_truth
