use Rattle.ivy_crowd.proofs.Sure.{reads}
use Rattle.ivy_crowd.proofs.ends.SureSourceSource.read.Goals as goal

pub returns-clause-cause : goal.returns-clause-cause
returns-clause-cause c = reads c.read.result _ _ c.self.invariant c.read.ensures.planned
