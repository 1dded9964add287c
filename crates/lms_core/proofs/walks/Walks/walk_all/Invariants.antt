use Rattle.std.proofs.Common.{◌≡◌, ℕ, ◌<◌, length}
use Rattle.lms_core.specs.Kept.{at}
use Rattle.lms_core.specs.Walks.{end_in}
use Rattle.lms_core.proofs.walks.Walks.walk_all.Given as goal

abbrev pub invariant-places : goal.invariant-places
invariant-places l = (length l.ends ≡ 68) × ((k : ℕ) → k < l.i → at l.ends k ≡ end_in l.leaf.id l.leaf.number l.self k)
