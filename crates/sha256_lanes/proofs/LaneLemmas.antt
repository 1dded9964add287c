-- What holds of each of four lanes.
use Rattle.std.proofs.Common.{◌≡◌, ℕ, zero, suc, ◌+◌, ◌-◌, ◌*◌, ◌/◌, ◌%◌, ◌^◌, ◌<◌, List, [], ◌∷◌, length, map, slice_index, bit_and, bit_or, bit_xor, arith, refl, subst, inl, inr}
use Rattle.std.proofs.lemmas.Bool.{cases_lt}
use Rattle.std.proofs.Math.ListN.{get_or-map}
use Rattle.std.specs.Int.{w32, bit_not, rotate_right}
use Rattle.std.proofs.lemmas.Simd.{Each1-get_or}
use Rattle.std.specs.Simd.Lanes.{zip2, Each1}
use mir.Val.{Fits}
use Rattle.sha2.specs.Sha256.{ch, maj}
use Rattle.sha256_lanes.specs.Lanes.{lane, word_in}
use Rattle.sha256_lanes.proofs.Maj.{maj_short}

-- what holds of each of the four lanes
pub below_four : (P : ℕ → Type 0) → P 0 → P 1 → P 2 → P 3 → (j : ℕ) → j < 4 → P j
below_four P p0 p1 p2 p3 zero h = p0
below_four P p0 p1 p2 p3 (suc zero) h = p1
below_four P p0 p1 p2 p3 (suc (suc zero)) h = p2
below_four P p0 p1 p2 p3 (suc (suc (suc zero))) h = p3
below_four P p0 p1 p2 p3 (suc (suc (suc (suc n)))) h = absurd (omega arith)

-- what holds of five, of eight and of sixteen
pub below_five : (P : ℕ → Type 0) → P 0 → P 1 → P 2 → P 3 → P 4 → (k : ℕ) → k < 5 → P k
below_five P p0 p1 p2 p3 p4 k h = elim (cases_lt k 4) [
  | inl low ↦ below_four P p0 p1 p2 p3 k low
  | inr high ↦ let e : 4 ≡ k = omega arith in subst P e p4
]

pub below_eight : (P : ℕ → Type 0) → P 0 → P 1 → P 2 → P 3 → P 4 → P 5 → P 6 → P 7 → (k : ℕ) → k < 8 → P k
below_eight P p0 p1 p2 p3 p4 p5 p6 p7 k h = elim (cases_lt k 4) [
  | inl low ↦ below_four P p0 p1 p2 p3 k low
  | inr high ↦ let e : 4 + (k - 4) ≡ k = omega arith in subst P e (below_four (λ i. P (4 + i)) p4 p5 p6 p7 (k - 4) (omega arith))
]

pub below_sixteen : (P : ℕ → Type 0) → P 0 → P 1 → P 2 → P 3 → P 4 → P 5 → P 6 → P 7 → P 8 → P 9 → P 10 → P 11 → P 12 → P 13 → P 14 → P 15 → (k : ℕ) → k < 16 → P k
below_sixteen P p0 p1 p2 p3 p4 p5 p6 p7 p8 p9 p10 p11 p12 p13 p14 p15 k h = elim (cases_lt k 8) [
  | inl low ↦ below_eight P p0 p1 p2 p3 p4 p5 p6 p7 k low
  | inr high ↦ let e : 8 + (k - 8) ≡ k = omega arith in subst P e (below_eight (λ i. P (8 + i)) p8 p9 p10 p11 p12 p13 p14 p15 (k - 8) (omega arith))
]

-- what holds of each list of four elements
pub four_lanes : (P : List ℕ → Type 0) → ((a b c d : ℕ) → P (a ∷ b ∷ c ∷ d ∷ [])) → (xs : List ℕ) → length xs ≡ 4 → P xs
four_lanes P p (a ∷ b ∷ c ∷ d ∷ []) h = p a b c d
four_lanes P p [] h = absurd (omega arith)
four_lanes P p (a ∷ []) h = absurd (omega arith)
four_lanes P p (a ∷ b ∷ []) h = absurd (omega arith)
four_lanes P p (a ∷ b ∷ c ∷ []) h = absurd (omega arith)
four_lanes P p (a ∷ b ∷ c ∷ d ∷ e ∷ xs) h = absurd (omega arith)

-- each lane of a vector is a word
pub lane_fits : (xs : List ℕ) (j : ℕ) → length xs ≡ 4 → Each1 (Fits w32) xs → j < 4 → slice_index xs j < 2 ^ 32
lane_fits xs j long fits below = (Each1-get_or (Fits w32) xs j 0 (omega arith) fits).fits

-- two shifts of each lane and an or are a rotation
abbrev Rotates : ℕ → List ℕ → Type 0
Rotates k a = (j : ℕ) → j < 4
    → slice_index (zip2 bit_or
    (zip2 (λ x n. x / 2 ^ n) a (k ∷ k ∷ k ∷ k ∷ []))
    (zip2 (λ x n. x * 2 ^ n % 2 ^ 32) a ((32 - k) ∷ (32 - k) ∷ (32 - k) ∷ (32 - k) ∷ []))) j
    ≡ rotate_right w32 (slice_index a j) k

pub shifts_rotate : (k : ℕ) → 0 < k → k < 32 → (a : List ℕ) → length a ≡ 4 → Rotates k a
shifts_rotate k low high =
    let right : k % 32 ≡ k = omega arith in
    let left : (32 - k) % 32 ≡ 32 - k = omega arith in
    four_lanes (Rotates k) (λ a0 a1 a2 a3.
    below_four _ (rw (right, left) refl) (rw (right, left) refl) (rw (right, left) refl) (rw (right, left) refl))

abbrev Xors : List ℕ → List ℕ → List ℕ → Type 0
Xors a b c = (j : ℕ) → j < 4 → slice_index (zip2 bit_xor (zip2 bit_xor a b) c) j ≡ bit_xor (bit_xor (slice_index a j) (slice_index b j)) (slice_index c j)

pub three_xors : (a : List ℕ) → length a ≡ 4 → (b : List ℕ) → length b ≡ 4 → (c : List ℕ) → length c ≡ 4 → Xors a b c
three_xors =
    four_lanes (λ a. (b : List ℕ) → length b ≡ 4 → (c : List ℕ) → length c ≡ 4 → Xors a b c) (λ a0 a1 a2 a3.
    four_lanes (λ b. (c : List ℕ) → length c ≡ 4 → Xors (a0 ∷ a1 ∷ a2 ∷ a3 ∷ []) b c) (λ b0 b1 b2 b3.
    four_lanes (Xors (a0 ∷ a1 ∷ a2 ∷ a3 ∷ []) (b0 ∷ b1 ∷ b2 ∷ b3 ∷ [])) (λ c0 c1 c2 c3. below_four _ refl refl refl refl)))

-- a shift of each lane by the same count
abbrev Shifts : ℕ → List ℕ → Type 0
Shifts k a = (j : ℕ) → j < 4 → slice_index (zip2 (λ x n. x / 2 ^ n) a (k ∷ k ∷ k ∷ k ∷ [])) j ≡ slice_index a j / 2 ^ k

pub shifts_of : (k : ℕ) (a : List ℕ) → length a ≡ 4 → Shifts k a
shifts_of k = four_lanes (Shifts k) (λ a0 a1 a2 a3. below_four _ refl refl refl refl)

abbrev Shifts_left : ℕ → List ℕ → Type 0
Shifts_left k a = (j : ℕ) → j < 4 → slice_index (zip2 (λ x n. x * 2 ^ n % 2 ^ 32) a (k ∷ k ∷ k ∷ k ∷ [])) j ≡ slice_index a j * 2 ^ k % 2 ^ 32

pub left_shifts_of : (k : ℕ) (a : List ℕ) → length a ≡ 4 → Shifts_left k a
left_shifts_of k = four_lanes (Shifts_left k) (λ a0 a1 a2 a3. below_four _ refl refl refl refl)

-- a word that is the same in each lane
pub splat_at : (x j : ℕ) → j < 4 → slice_index (x ∷ x ∷ x ∷ x ∷ []) j ≡ x
splat_at x = below_four (λ j. slice_index (x ∷ x ∷ x ∷ x ∷ []) j ≡ x) refl refl refl refl

abbrev Chooses : List ℕ → List ℕ → List ℕ → Type 0
Chooses x y z = (j : ℕ) → j < 4 → slice_index (zip2 bit_xor (zip2 bit_and x y) (zip2 bit_and (map (bit_not w32) x) z)) j ≡ ch (slice_index x j) (slice_index y j) (slice_index z j)

pub lanes_choose : (x : List ℕ) → length x ≡ 4 → (y : List ℕ) → length y ≡ 4 → (z : List ℕ) → length z ≡ 4 → Chooses x y z
lanes_choose =
    four_lanes (λ x. (y : List ℕ) → length y ≡ 4 → (z : List ℕ) → length z ≡ 4 → Chooses x y z) (λ x0 x1 x2 x3.
    four_lanes (λ y. (z : List ℕ) → length z ≡ 4 → Chooses (x0 ∷ x1 ∷ x2 ∷ x3 ∷ []) y z) (λ y0 y1 y2 y3.
    four_lanes (Chooses (x0 ∷ x1 ∷ x2 ∷ x3 ∷ []) (y0 ∷ y1 ∷ y2 ∷ y3 ∷ [])) (λ z0 z1 z2 z3. below_four _ refl refl refl refl)))

abbrev Votes : List ℕ → List ℕ → List ℕ → Type 0
Votes x y z = (j : ℕ) → j < 4 → slice_index (zip2 bit_xor y (zip2 bit_and (zip2 bit_xor x y) (zip2 bit_xor y z))) j ≡ maj (slice_index x j) (slice_index y j) (slice_index z j)

pub lanes_vote : (x : List ℕ) → length x ≡ 4 → (y : List ℕ) → length y ≡ 4 → (z : List ℕ) → length z ≡ 4 → Votes x y z
lanes_vote =
    four_lanes (λ x. (y : List ℕ) → length y ≡ 4 → (z : List ℕ) → length z ≡ 4 → Votes x y z) (λ x0 x1 x2 x3.
    four_lanes (λ y. (z : List ℕ) → length z ≡ 4 → Votes (x0 ∷ x1 ∷ x2 ∷ x3 ∷ []) y z) (λ y0 y1 y2 y3.
    four_lanes (Votes (x0 ∷ x1 ∷ x2 ∷ x3 ∷ []) (y0 ∷ y1 ∷ y2 ∷ y3 ∷ [])) (λ z0 z1 z2 z3.
    below_four _ (maj_short x0 y0 z0) (maj_short x1 y1 z1) (maj_short x2 y2 z2) (maj_short x3 y3 z3))))

-- word k of a lane
pub lane_word : (words : List (List ℕ)) (j k : ℕ) → slice_index (lane j words) k ≡ word_in words k j
lane_word words j k = get_or-map (λ (v : List ℕ). slice_index v j) words k []
