use Rattle.std.proofs.Common.{◌≡◌, ℕ, ◌<◌, slice_index}
use Rattle.hash_signature_model.specs.OneTime.{chain}
use Rattle.lms_core.specs.Kept.{at}
use Rattle.lms_core.proofs.walks.walk_each.Given as goal

abbrev pub invariant-steps : goal.invariant-steps
invariant-steps l = (k : ℕ) → k < 4 → at l.values k ≡ chain l.leaf.id l.leaf.number (slice_index l.chains k) (slice_index l.from k) l.step (at l.fn.start k)
