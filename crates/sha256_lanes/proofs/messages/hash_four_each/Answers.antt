use Rattle.std.proofs.Common.{[], ◌∷◌, slice_index}
use Rattle.sha256_lanes.specs.Lanes.{AreThree, bytes_at}
use Rattle.sha256_lanes.proofs.LaneLemmas.{below_four}
use Rattle.sha256_lanes.proofs.messages.hash_four_each.Goals as goal

pub returns : goal.returns
returns c j below =
    let middles = c.args.middles.now in
    let threes = below_four (λ k. AreThree (bytes_at middles k) (slice_index (c.three.result ∷ c.three-2.result ∷ c.three-3.result ∷ c.three-4.result ∷ []) k)) c.three.ensures c.three-2.ensures c.three-3.ensures c.three-4.ensures in
    c.hash_lanes.ensures j (bytes_at middles j) below (threes j below)
