use Rattle.std.proofs.Common.{◌≡◌, ◌≤◌, length}
use Rattle.hss_keys.proofs.signer.saving.grow_used.Given as goal

abbrev pub invariant-levels : goal.invariant-levels
invariant-levels l = record {
  count : length l.lower.items ≡ l.i;
  few : length l.sets ≤ 2;
}
