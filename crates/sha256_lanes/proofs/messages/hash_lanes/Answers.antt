use Rattle.std.proofs.Common.{◌≡◌, ℕ, List, [], ◌∷◌, ◌<◌, sym, ap, ◌∙◌, refl, arith, slice_index, slice_index_or}
use Rattle.std.proofs.lemmas.List.Elements.{All-get_or}
use Rattle.std.specs.Int.{w32, from_be_bytes}
use Rattle.sha2.specs.Sha256.{digest_bytes, sha256}
use Rattle.sha256_lanes.specs.Lanes.{bytes_at, bytes_5, bytes_8}
use Rattle.sha256_lanes.proofs.LaneLemmas.{splat_at}
use Rattle.sha256_lanes.proofs.BlockLemmas.{block_of, block_words, head_in_lane, one_block, same_three, three_bytes, value_in_lane}
use Rattle.sha256_lanes.proofs.messages.hash_lanes.Goals as goal

pub returns : goal.returns
returns c j bytes below are =
    let h = c.heads.inside in
    let v = c.values.inside in
    let out = c.compress.result in
    let fits = c.heads.invariant j below in
    let byte : (k : ℕ) → k < 3 → slice_index bytes k < 256 = λ k inside. All-get_or (λ (b : ℕ). b < 256) bytes k 0 (omega (arith, are.three)) are.fit in
    let head : bytes_at c.args.heads.now j ≡ bytes_5 j h.a h.b h.c h.d h.e = ap (λ (lists : List (List ℕ)). bytes_at lists j) (sym c.heads.view_is) ∙ head_in_lane h.a h.b h.c h.d h.e j below in
    let middle = three_bytes bytes are.three in
    let word = are.word ∙ ap (λ (xs : List ℕ). from_be_bytes w32 (0 ∷ xs)) middle in
    let value : bytes_at c.args.values.now j ≡ bytes_8 j v.a v.b v.c v.d v.e v.f v.g v.h = ap (λ (lists : List (List ℕ)). bytes_at lists j) (sym c.values.view_is) ∙ value_in_lane v.a v.b v.c v.d v.e v.f v.g v.h j below in
    let block = block_of (slice_index c.heads.inside.a j) (slice_index c.heads.inside.b j) (slice_index c.heads.inside.c j) (slice_index c.heads.inside.d j) (slice_index c.heads.inside.e j) (slice_index bytes 0) (slice_index bytes 1) (slice_index bytes 2) (slice_index c.values.inside.a j) (slice_index c.values.inside.b j) (slice_index c.values.inside.c j) (slice_index c.values.inside.d j) (slice_index c.values.inside.e j) (slice_index c.values.inside.f j) (slice_index c.values.inside.g j) (slice_index c.values.inside.h j) in
    let words = block_words (slice_index c.heads.inside.a j) (slice_index c.heads.inside.b j) (slice_index c.heads.inside.c j) (slice_index c.heads.inside.d j) (slice_index c.heads.inside.e j) (slice_index bytes 0) (slice_index bytes 1) (slice_index bytes 2) (slice_index c.values.inside.a j) (slice_index c.values.inside.b j) (slice_index c.values.inside.c j) (slice_index c.values.inside.d j) (slice_index c.values.inside.e j) (slice_index c.values.inside.f j) (slice_index c.values.inside.g j) (slice_index c.values.inside.h j) fits.0 fits.1 fits.2 fits.3 fits.4 (byte 0 (omega arith)) (byte 1 (omega arith)) (byte 2 (omega arith))
    (slice_index c.heads.inside.a j) (slice_index c.heads.inside.b j) (slice_index c.heads.inside.c j) (slice_index c.heads.inside.d j) (slice_index c.heads.inside.e j) (slice_index c.across.result j) (slice_index c.across-2.result j) (slice_index c.across-3.result j) (slice_index c.across-4.result j) (slice_index c.across-5.result j) (slice_index c.across-6.result j) (slice_index c.across-7.result j) (slice_index c.across-8.result j) (slice_index c.across-9.result j) (slice_index (0 ∷ 0 ∷ 0 ∷ 0 ∷ []) j) (slice_index (440 ∷ 440 ∷ 440 ∷ 440 ∷ []) j)
    refl refl refl refl refl (rw word at (c.across.ensures j below)) (c.across-2.ensures j below) (c.across-3.ensures j below) (c.across-4.ensures j below) (c.across-5.ensures j below) (c.across-6.ensures j below) (c.across-7.ensures j below) (c.across-8.ensures j below) (rw (splat_at 0x80000000 j below) at (c.across-9.ensures j below)) (splat_at 0 j below) (splat_at 440 j below) in
    value_in_lane (slice_index_or out 0 []) (slice_index_or out 1 []) (slice_index_or out 2 []) (slice_index_or out 3 []) (slice_index_or out 4 []) (slice_index_or out 5 []) (slice_index_or out 6 []) (slice_index_or out 7 []) j below
    ∙ ap (λ (s : List ℕ). digest_bytes s 8) (c.compress.ensures j below block words)
    ∙ sym (one_block (slice_index c.heads.inside.a j) (slice_index c.heads.inside.b j) (slice_index c.heads.inside.c j) (slice_index c.heads.inside.d j) (slice_index c.heads.inside.e j) (slice_index bytes 0) (slice_index bytes 1) (slice_index bytes 2) (slice_index c.values.inside.a j) (slice_index c.values.inside.b j) (slice_index c.values.inside.c j) (slice_index c.values.inside.d j) (slice_index c.values.inside.e j) (slice_index c.values.inside.f j) (slice_index c.values.inside.g j) (slice_index c.values.inside.h j))
    ∙ ap sha256 (sym (same_three head middle value))
