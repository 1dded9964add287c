use Rattle.std.proofs.Common.{◌≡◌, ◌+◌, [], ◌∷◌, ◌++◌, arith}
use Rattle.hash_signature_model.specs.OneTime.{u32_string}
use Rattle.sha256_lanes.proofs.LaneLemmas.{below_four}
use Rattle.lms_core.specs.Kept.{at}
use Rattle.lms_core.proofs.hashing.heads_of.Goals as goal

pub returns : goal.returns
returns c =
    let id = c.args.id.now in
    let first = c.args.first in
    let none : first + 0 ≡ first = omega arith in
    rw c.of.ensures
    (below_four (λ k. at (c.head_of.result ∷ c.head_of-2.result ∷ c.head_of-3.result ∷ c.head_of-4.result ∷ []) k ≡ id ++ u32_string (first + k)) (rw none c.head_of.ensures) c.head_of-2.ensures c.head_of-3.ensures c.head_of-4.ensures)
