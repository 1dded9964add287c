use Rattle.std.proofs.Common.{◌≡◌, List, [], ◌++◌, All}
use Rattle.value_gate.specs.Passes.{IsPassOf, HasGathered}
use Rattle.value_gate.proofs.gate.Gate.gather.Given as goal

-- the passes that were taken from the end are gathered
abbrev pub invariant-loop-pass : goal.invariant-loop-pass
invariant-loop-pass g l = (l.seat.table_id ≡ l.fn.self.gate) × (l.seat.me.1 ≡ []) × All (λ p. IsPassOf l.fn.self p) l.others.items
    × (taken : List _) × (l.fn.others.items ≡ l.others.items ++ taken) × HasGathered l.fn.self.opening l.fn.first taken l.seat.me.0

abbrev pub decreases-loop-pass : goal.decreases-loop-pass
decreases-loop-pass g l = goal.left-loop-pass g l
