use Rattle.std.proofs.Common.{◌≡◌, ◌≤◌}
use Rattle.dhash_repair.specs.Putting.{PuttingGoesOn, left_of}
use Rattle.dhash_repair.proofs.put.Put.next.Given as goal

-- no ask was made so far
abbrev pub invariant-steps : goal.invariant-steps
invariant-steps l = record { goes : PuttingGoesOn l.initial.self l.self; left : left_of l.self ≤ left_of l.initial.self; ack : l.self.ack ≡ l.initial.self.ack }

abbrev pub decreases-steps : goal.decreases-steps
decreases-steps l = left_of l.self
