use Rattle.std.proofs.Common.{◌≡◌, ℕ, [], ◌∷◌, ◌++◌, slice_index, ap, ◌∙◌}
use Rattle.sha2.specs.Sha256.{sha256}
use Rattle.hash_signature_model.specs.OneTime.{half, u32_string}
use Rattle.sha256_lanes.proofs.LaneLemmas.{below_four}
use Rattle.lms_core.specs.Kept.{at}
use Rattle.lms_core.proofs.Fours.{five_pieces}
use Rattle.lms_core.proofs.leaf.Leaf.step_each.Goals as goal

pub returns : goal.returns
returns c k below =
    let chains = c.args.chains.now in
    let steps = c.args.steps.now in
    let middles = below_four (λ (i : ℕ). at (c.middle.result ∷ c.middle-2.result ∷ c.middle-3.result ∷ c.middle-4.result ∷ []) i ≡ half (slice_index chains i) ++ slice_index steps i ∷ []) c.middle.ensures c.middle-2.ensures c.middle-3.ensures c.middle-4.ensures in
    c.hash_four_each.ensures k below
    ∙ rw (c.args.self.now.same k below, middles k below) (ap sha256 (five_pieces c.args.self.now.id (u32_string c.args.self.now.number) (half (slice_index chains k)) (at c.args.values.now k) (slice_index steps k)))
