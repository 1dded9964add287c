use Rattle.std.proofs.Common.{◌≡◌, length}
use Rattle.hss_keys.proofs.signer.grow_lower.Given as goal

abbrev pub invariant-levels : goal.invariant-levels
invariant-levels l = length l.lower.items ≡ l.set-index
