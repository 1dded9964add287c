use Rattle.ivy_crowd.proofs.Sure.{writes}
use Rattle.ivy_crowd.proofs.ends.SureSinkSink.write.Goals as goal

pub returns-clause-cause : goal.returns-clause-cause
returns-clause-cause c = writes c.write.result c.args.from.now _ _ c.self.invariant c.write.ensures.planned c.write.ensures.count
