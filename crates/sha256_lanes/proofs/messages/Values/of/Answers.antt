use Rattle.std.proofs.Common.{◌≡◌, ℕ, ◌<◌, slice_index, arith}
use Rattle.sha256_lanes.specs.Lanes.{bytes_at, bytes_8}
use Rattle.sha256_lanes.proofs.BlockLemmas.{four_lists, spelled_8_is}
use Rattle.sha256_lanes.proofs.messages.Values.of.Goals as goal

pub returns : goal.returns
returns c =
    let xs = c.args.values.now in
    let same : (j : ℕ) → j < 4 → bytes_8 j c.value_word.result c.value_word-2.result c.value_word-3.result c.value_word-4.result c.value_word-5.result c.value_word-6.result c.value_word-7.result c.value_word-8.result ≡ bytes_at xs j =
    λ j below. spelled_8_is (bytes_at xs j) (slice_index c.value_word.result j) (slice_index c.value_word-2.result j) (slice_index c.value_word-3.result j) (slice_index c.value_word-4.result j) (slice_index c.value_word-5.result j) (slice_index c.value_word-6.result j) (slice_index c.value_word-7.result j) (slice_index c.value_word-8.result j) (c.value_word.ensures.long j below) (c.value_word.ensures.words j below) (c.value_word-2.ensures.words j below) (c.value_word-3.ensures.words j below) (c.value_word-4.ensures.words j below) (c.value_word-5.ensures.words j below) (c.value_word-6.ensures.words j below) (c.value_word-7.ensures.words j below) (c.value_word-8.ensures.words j below) in
    four_lists xs c.told-values _ _ _ _ (same 0 (omega arith)) (same 1 (omega arith)) (same 2 (omega arith)) (same 3 (omega arith))
