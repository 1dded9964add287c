use Rattle.std.proofs.Common.{◌≡◌, ℕ, ◌<◌, length}
use Rattle.hash_signature_model.specs.OneTime.{value_at}
use Rattle.lms_core.specs.Kept.{at}
use Rattle.lms_core.proofs.walks.split_values.Given as goal

abbrev pub invariant-chains : goal.invariant-chains
invariant-chains l = (length l.split ≡ 68) × ((i : ℕ) → i < l.i → at l.split i ≡ value_at l.values i)
