use Rattle.std.proofs.Common.{ℕ, ◌<◌, ◌≤◌, slice_index}
use Rattle.lms_core.specs.Walks.{left_to}
use Rattle.lms_core.proofs.walks.Walks.shortest.Given as goal

abbrev pub invariant-lanes : goal.invariant-lanes
invariant-lanes l = (l.least < 4) × ((k : ℕ) → k < l.lane → left_to l.self (slice_index l.lanes l.least) ≤ left_to l.self (slice_index l.lanes k))
