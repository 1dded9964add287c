use Rattle.std.proofs.Common.{◌≤◌}
use Rattle.dhash_repair.specs.Repairing.{RepairGoesOn, repair_left}
use Rattle.dhash_repair.proofs.repair.Repair.next.Given as goal

-- no ask was made so far
abbrev pub invariant-steps : goal.invariant-steps
invariant-steps l = record { goes : RepairGoesOn l.initial.self l.self; left : repair_left l.self ≤ repair_left l.initial.self }

abbrev pub decreases-steps : goal.decreases-steps
decreases-steps l = repair_left l.self
