use Rattle.nfs_laws.proofs.Plans.{plans_are_few}
use Rattle.nfs_laws.proofs.plans_are_few.Goals as goal

pub returns : goal.returns
returns c = plans_are_few
