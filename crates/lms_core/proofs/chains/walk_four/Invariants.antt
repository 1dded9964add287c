use Rattle.std.proofs.Common.{◌≡◌, ℕ, List, ◌+◌, ◌-◌, ◌<◌}
use Rattle.hash_signature_model.specs.OneTime.{chain}
use Rattle.lms_core.specs.Fours.{AreHeads}
use Rattle.lms_core.specs.Kept.{at}
use Rattle.lms_core.proofs.chains.walk_four.Given as goal

abbrev pub invariant-steps : goal.invariant-steps
invariant-steps l = (id : List ℕ) (first k : ℕ) → AreHeads id first l.heads → k < 4 → at l.values k ≡ chain id (first + k) l.i 0 (l.j - 0) (at l.fn.start k)
