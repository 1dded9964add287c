use Rattle.std.proofs.Common.{subst}
use Rattle.dhash_repair.specs.Repairing.{RepairSteps}
use Rattle.dhash_repair.proofs.Repairing.{repair_wants}
use Rattle.dhash_repair.proofs.repair.Repair.next.Goals as goal

pub returns-in-Some-clause-wanted : goal.returns-in-Some-clause-wanted
returns-in-Some-clause-wanted c =
    repair_wants c.args.self.now c.steps.self c.step.new.self c.steps.invariant.goes c.in-Some.want (subst (RepairSteps c.steps.self c.step.new.self) c.in-Some.is c.in_ok-want.ensures).0
