use Rattle.std.proofs.Common.{◌≡◌, ℕ, ◌<◌, ◌≤◌, get_or}
use Rattle.conflict_list.proofs.logs.before.Given as goal

abbrev pub invariant-places : goal.invariant-places
invariant-places l = (k : ℕ) → l.i ≤ k → k < l.j → get_or l.of k 0 ≡ get_or l.of l.j 0 → ⊥
