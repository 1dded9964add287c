use Rattle.std.proofs.Common.{◌≡◌, ℕ, ◌<◌, slice_index, arith}
use Rattle.sha256_lanes.specs.Lanes.{bytes_at, bytes_5}
use Rattle.sha256_lanes.proofs.BlockLemmas.{four_lists, spelled_5_is}
use Rattle.sha256_lanes.proofs.messages.Heads.of.Goals as goal

pub returns : goal.returns
returns c =
    let xs = c.args.heads.now in
    let same : (j : ℕ) → j < 4 → bytes_5 j c.head_word.result c.head_word-2.result c.head_word-3.result c.head_word-4.result c.head_word-5.result ≡ bytes_at xs j =
    λ j below. spelled_5_is (bytes_at xs j) (slice_index c.head_word.result j) (slice_index c.head_word-2.result j) (slice_index c.head_word-3.result j) (slice_index c.head_word-4.result j) (slice_index c.head_word-5.result j) (c.head_word.ensures.long j below) (c.head_word.ensures.words j below) (c.head_word-2.ensures.words j below) (c.head_word-3.ensures.words j below) (c.head_word-4.ensures.words j below) (c.head_word-5.ensures.words j below) in
    four_lists xs c.told-heads _ _ _ _ (same 0 (omega arith)) (same 1 (omega arith)) (same 2 (omega arith)) (same 3 (omega arith))
