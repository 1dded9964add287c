use Rattle.std.proofs.Common.{◌≡◌, ℕ, ◌<◌, ◌≤◌, length, slice_index}
use Rattle.hash_signature_model.specs.Parameters.{top}
use Rattle.hash_signature_model.specs.OneTime.{coefficient}
use Rattle.lms_core.proofs.walks.digits.Given as goal

abbrev pub invariant-chains : goal.invariant-chains
invariant-chains l = record {
  long : length l.digits ≡ 68;
  values : (i : ℕ) → i < l.i → slice_index l.digits i ≡ coefficient l.w l.code i;
  bound : (i : ℕ) → i < 68 → slice_index l.digits i ≤ top l.w;
}
