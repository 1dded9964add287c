use Rattle.std.proofs.Common.{subst}
use Rattle.dhash_repair.specs.Putting.{PuttingSteps}
use Rattle.dhash_repair.proofs.Putting.{putting_wants}
use Rattle.dhash_repair.proofs.put.Put.next.Goals as goal

pub returns-in-Some-clause-wanted : goal.returns-in-Some-clause-wanted
returns-in-Some-clause-wanted c =
    putting_wants c.args.self.now c.steps.self c.step.new.self c.steps.invariant.goes c.in-Some.want (subst (PuttingSteps c.steps.self c.step.new.self) c.in-Some.is c.in_ok-want.ensures.steps).0
