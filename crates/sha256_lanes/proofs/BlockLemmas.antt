-- Words and bytes of a block.
use Rattle.std.proofs.Common.{◌≡◌, ℕ, zero, suc, ◌+◌, ◌*◌, ◌/◌, ◌%◌, ◌^◌, ◌<◌, List, [], ◌∷◌, ◌++◌, length, take, drop, slice_index, refl, sym, ◌∙◌, arith}
use Rattle.std.proofs.lemmas.List.{take_all}
use Rattle.std.proofs.Math.Seq.{take-add}
use Rattle.std.proofs.lemmas.Nat.{from_be_bytes-to_be_bytes_4}
use Rattle.std.specs.Int.{w32, w64, to_be_bytes, from_be_bytes}
use Rattle.sha2.specs.Sha256.{add32, compress, digest_bytes, hash_after, initial_hash_256, sha256, word_at}
use Rattle.sha256_lanes.specs.Lanes.{bytes_at, bytes_5, bytes_8, spelled_5, spelled_8}
use Rattle.sha256_lanes.proofs.LaneLemmas.{below_four, below_five, below_eight, below_sixteen}

-- a list of four lists
pub four_lists : (xs : List (List ℕ)) → length xs ≡ 4 → (a b c d : List ℕ) → a ≡ bytes_at xs 0 → b ≡ bytes_at xs 1 → c ≡ bytes_at xs 2 → d ≡ bytes_at xs 3 → a ∷ b ∷ c ∷ d ∷ [] ≡ xs
four_lists (x ∷ y ∷ z ∷ u ∷ []) h a b c d ea eb ec ed = rw (ea, eb, ec, ed) refl
four_lists [] h a b c d ea eb ec ed = absurd (omega arith)
four_lists (x ∷ []) h a b c d ea eb ec ed = absurd (omega arith)
four_lists (x ∷ y ∷ []) h a b c d ea eb ec ed = absurd (omega arith)
four_lists (x ∷ y ∷ z ∷ []) h a b c d ea eb ec ed = absurd (omega arith)
four_lists (x ∷ y ∷ z ∷ u ∷ v ∷ xs) h a b c d ea eb ec ed = absurd (omega arith)

pub three_bytes : (xs : List ℕ) → length xs ≡ 3 → xs ≡ slice_index xs 0 ∷ slice_index xs 1 ∷ slice_index xs 2 ∷ []
three_bytes (x ∷ y ∷ z ∷ []) h = refl
three_bytes [] h = absurd (omega arith)
three_bytes (x ∷ []) h = absurd (omega arith)
three_bytes (x ∷ y ∷ []) h = absurd (omega arith)
three_bytes (x ∷ y ∷ z ∷ u ∷ xs) h = absurd (omega arith)

pub same_three : {a b c x y z : List ℕ} → a ≡ x → b ≡ y → c ≡ z → a ++ b ++ c ≡ x ++ y ++ z
same_three ea eb ec = rw (ea, eb, ec) refl

-- the word after the first byte of a word and before the last three of the next
pub joined_word : (x y : ℕ) → y < 2 ^ 32 → add32 (x * 2 ^ 8 % 2 ^ 32) (y / 2 ^ 24) ≡ x % 2 ^ 24 * 2 ^ 8 + y / 2 ^ 24 % 2 ^ 8
joined_word x y fits = omega arith

-- which list is in which lane
pub head_in_lane : (a b c d e : List ℕ) (j : ℕ) → j < 4 → bytes_at (spelled_5 a b c d e) j ≡ bytes_5 j a b c d e
head_in_lane a b c d e = below_four (λ j. bytes_at (spelled_5 a b c d e) j ≡ bytes_5 j a b c d e) refl refl refl refl

pub value_in_lane : (a b c d e f g h : List ℕ) (j : ℕ) → j < 4 → bytes_at (spelled_8 a b c d e f g h) j ≡ bytes_8 j a b c d e f g h
value_in_lane a b c d e f g h = below_four (λ j. bytes_at (spelled_8 a b c d e f g h) j ≡ bytes_8 j a b c d e f g h) refl refl refl refl

-- the words that are read from bytes, as bytes again
words_spelled : (h b : List ℕ) (n : ℕ) → ((k : ℕ) → k < n → to_be_bytes w32 (slice_index h k) ≡ take 4 (drop (4 * k) b)) → digest_bytes h n ≡ take (4 * n) b
unfolding digest_bytes
words_spelled h b zero same = refl
words_spelled h b (suc n) same =
    let before = words_spelled h b n (λ k lt. same k (omega arith)) in
    let e : 4 * suc n ≡ 4 * n + 4 = omega arith in
    rw (before, same n (omega arith), e) (sym (take-add (4 * n) 4 b))

pub spelled_5_is : (b : List ℕ) (x0 x1 x2 x3 x4 : ℕ) → length b ≡ 20 → to_be_bytes w32 x0 ≡ take 4 (drop 0 b) → to_be_bytes w32 x1 ≡ take 4 (drop 4 b) → to_be_bytes w32 x2 ≡ take 4 (drop 8 b) → to_be_bytes w32 x3 ≡ take 4 (drop 12 b) → to_be_bytes w32 x4 ≡ take 4 (drop 16 b) → digest_bytes (x0 ∷ x1 ∷ x2 ∷ x3 ∷ x4 ∷ []) 5 ≡ b
spelled_5_is b x0 x1 x2 x3 x4 long e0 e1 e2 e3 e4 =
    words_spelled (x0 ∷ x1 ∷ x2 ∷ x3 ∷ x4 ∷ []) b 5 (below_five (λ k. to_be_bytes w32 (slice_index (x0 ∷ x1 ∷ x2 ∷ x3 ∷ x4 ∷ []) k) ≡ take 4 (drop (4 * k) b)) e0 e1 e2 e3 e4)
    ∙ take_all 20 b (omega arith)

pub spelled_8_is : (b : List ℕ) (x0 x1 x2 x3 x4 x5 x6 x7 : ℕ) → length b ≡ 32 → to_be_bytes w32 x0 ≡ take 4 (drop 0 b) → to_be_bytes w32 x1 ≡ take 4 (drop 4 b) → to_be_bytes w32 x2 ≡ take 4 (drop 8 b) → to_be_bytes w32 x3 ≡ take 4 (drop 12 b) → to_be_bytes w32 x4 ≡ take 4 (drop 16 b) → to_be_bytes w32 x5 ≡ take 4 (drop 20 b) → to_be_bytes w32 x6 ≡ take 4 (drop 24 b) → to_be_bytes w32 x7 ≡ take 4 (drop 28 b) → digest_bytes (x0 ∷ x1 ∷ x2 ∷ x3 ∷ x4 ∷ x5 ∷ x6 ∷ x7 ∷ []) 8 ≡ b
spelled_8_is b x0 x1 x2 x3 x4 x5 x6 x7 long e0 e1 e2 e3 e4 e5 e6 e7 =
    words_spelled (x0 ∷ x1 ∷ x2 ∷ x3 ∷ x4 ∷ x5 ∷ x6 ∷ x7 ∷ []) b 8 (below_eight (λ k. to_be_bytes w32 (slice_index (x0 ∷ x1 ∷ x2 ∷ x3 ∷ x4 ∷ x5 ∷ x6 ∷ x7 ∷ []) k) ≡ take 4 (drop (4 * k) b)) e0 e1 e2 e3 e4 e5 e6 e7)
    ∙ take_all 32 b (omega arith)

-- a message of five words, three bytes and eight words, and its block
module _ (x0 x1 x2 x3 x4 t0 t1 t2 v0 v1 v2 v3 v4 v5 v6 v7 : ℕ) where
  abbrev pub message_of : List ℕ
  message_of = digest_bytes (x0 ∷ x1 ∷ x2 ∷ x3 ∷ x4 ∷ []) 5 ++ (t0 ∷ t1 ∷ t2 ∷ []) ++ digest_bytes (v0 ∷ v1 ∷ v2 ∷ v3 ∷ v4 ∷ v5 ∷ v6 ∷ v7 ∷ []) 8

  abbrev pub block_of : List ℕ
  block_of = message_of ++ 0x80 ∷ to_be_bytes w64 440

  pub one_block : sha256 message_of ≡ digest_bytes (compress initial_hash_256 block_of) 8
  unfolding sha256 digest_bytes hash_after
  one_block = refl

  pub block_words : x0 < 2 ^ 32 → x1 < 2 ^ 32 → x2 < 2 ^ 32 → x3 < 2 ^ 32 → x4 < 2 ^ 32 → t0 < 256 → t1 < 256 → t2 < 256
      → (y0 y1 y2 y3 y4 y5 y6 y7 y8 y9 y10 y11 y12 y13 y14 y15 : ℕ) → y0 ≡ x0 → y1 ≡ x1 → y2 ≡ x2 → y3 ≡ x3 → y4 ≡ x4 → y5 ≡ from_be_bytes w32 (0 ∷ t0 ∷ t1 ∷ t2 ∷ []) % 2 ^ 24 * 2 ^ 8 + v0 / 2 ^ 24 % 2 ^ 8 → y6 ≡ v0 % 2 ^ 24 * 2 ^ 8 + v1 / 2 ^ 24 % 2 ^ 8 → y7 ≡ v1 % 2 ^ 24 * 2 ^ 8 + v2 / 2 ^ 24 % 2 ^ 8 → y8 ≡ v2 % 2 ^ 24 * 2 ^ 8 + v3 / 2 ^ 24 % 2 ^ 8 → y9 ≡ v3 % 2 ^ 24 * 2 ^ 8 + v4 / 2 ^ 24 % 2 ^ 8 → y10 ≡ v4 % 2 ^ 24 * 2 ^ 8 + v5 / 2 ^ 24 % 2 ^ 8 → y11 ≡ v5 % 2 ^ 24 * 2 ^ 8 + v6 / 2 ^ 24 % 2 ^ 8 → y12 ≡ v6 % 2 ^ 24 * 2 ^ 8 + v7 / 2 ^ 24 % 2 ^ 8 → y13 ≡ v7 % 2 ^ 24 * 2 ^ 8 + 0x80000000 / 2 ^ 24 % 2 ^ 8 → y14 ≡ 0 → y15 ≡ 440
      → (k : ℕ) → k < 16 → slice_index (y0 ∷ y1 ∷ y2 ∷ y3 ∷ y4 ∷ y5 ∷ y6 ∷ y7 ∷ y8 ∷ y9 ∷ y10 ∷ y11 ∷ y12 ∷ y13 ∷ y14 ∷ y15 ∷ []) k ≡ word_at block_of (4 * k)
  unfolding digest_bytes
  block_words fx0 fx1 fx2 fx3 fx4 ft0 ft1 ft2 y0 y1 y2 y3 y4 y5 y6 y7 y8 y9 y10 y11 y12 y13 y14 y15 y_0 y_1 y_2 y_3 y_4 y_5 y_6 y_7 y_8 y_9 y_10 y_11 y_12 y_13 y_14 y_15 =
      below_sixteen (λ k. slice_index (y0 ∷ y1 ∷ y2 ∷ y3 ∷ y4 ∷ y5 ∷ y6 ∷ y7 ∷ y8 ∷ y9 ∷ y10 ∷ y11 ∷ y12 ∷ y13 ∷ y14 ∷ y15 ∷ []) k ≡ word_at block_of (4 * k)) (y_0 ∙ sym (from_be_bytes-to_be_bytes_4 x0 fx0)) (y_1 ∙ sym (from_be_bytes-to_be_bytes_4 x1 fx1)) (y_2 ∙ sym (from_be_bytes-to_be_bytes_4 x2 fx2)) (y_3 ∙ sym (from_be_bytes-to_be_bytes_4 x3 fx3)) (y_4 ∙ sym (from_be_bytes-to_be_bytes_4 x4 fx4)) (y_5 ∙ omega arith) (y_6 ∙ omega arith) (y_7 ∙ omega arith) (y_8 ∙ omega arith) (y_9 ∙ omega arith) (y_10 ∙ omega arith) (y_11 ∙ omega arith) (y_12 ∙ omega arith) (y_13 ∙ omega arith) (y_14 ∙ omega arith) (y_15 ∙ omega arith)
