-- Numbers by their digits in base 256, and arithmetic on the circle.
use Rattle.std.proofs.Common.{◌≡◌, ℕ, zero, suc, ◌+◌, ◌-◌, ◌*◌, ◌/◌, ◌%◌, ◌^◌, ◌<◌, ◌≤◌, List, [], ◌∷◌, length, get_or, set, drop, replicate, refl, sym, ap, subst, ◌∙◌, arith, length-drop, length-set}
use Rattle.std.proofs.lemmas.List.{length-replicate, drop_more, drop-set, drop_all}
use Rattle.std.proofs.lemmas.Nat.{mod-mul-add, mod_below, mul-add-lt, pow-add, pow_below}
use Rattle.std.specs.Int.{w32, w64, from_be_bytes}
use Rattle.std.proofs.Math.Nat.{pow-succ', mod-eq_of_lt, add-mul-mod_self_right}
use Rattle.std.proofs.Math.Numerals.{add-one}
use Rattle.ring_model.specs.Circle.{be_number, circle_size, clockwise}

-- the digits are bytes
abbrev pub AreBytes : List ℕ → Type 0
AreBytes xs = (i : ℕ) → get_or xs i 0 < 256

pub be_number-cons : (b : ℕ) (bs : List ℕ) → be_number (b ∷ bs) ≡ b * 256 ^ length bs + be_number bs
be_number-cons b bs = refl

pub be_number_from : (xs : List ℕ) (i k : ℕ) → i < length xs → length xs ≡ i + 1 + k
    → be_number (drop i xs) ≡ get_or xs i 0 * 256 ^ k + be_number (drop (i + 1) xs)
be_number_from xs i k h e =
    let l : length (drop (i + 1) xs) ≡ k = omega (arith, length-drop (i + 1) xs) in
    ap be_number (drop_more xs i 0 h) ∙ ap (λ n. get_or xs i 0 * 256 ^ n + be_number (drop (i + 1) xs)) l

pub be_number_set : (xs : List ℕ) (i k v : ℕ) → i < length xs → length xs ≡ i + 1 + k
    → be_number (drop i (set xs i v)) ≡ v * 256 ^ k + be_number (drop (i + 1) xs)
be_number_set xs i k v h e =
    let l : length (drop (i + 1) xs) ≡ k = omega (arith, length-drop (i + 1) xs) in
    ap be_number (drop-set xs i v h) ∙ ap (λ n. v * 256 ^ n + be_number (drop (i + 1) xs)) l

pub pow_more : (n : ℕ) → 256 ^ (n + 1) ≡ 256 * 256 ^ n
pow_more n = rw add-one (pow-succ' 256 n)

pub pow_pos : (n : ℕ) → 0 < 256 ^ n
pow_pos zero = omega arith
pow_pos (suc n) = let h = pow_pos n in rw (pow-succ' 256 n) (omega arith)

-- one digit of a difference, from the right
digit_step : (v f t b c p o r s : ℕ) → o + r ≡ s + b * p → v + f + b ≡ t + c * 256
    → (v * p + o) + (f * p + r) ≡ (t * p + s) + c * (256 * p)
digit_step v f t b c p o r s e d = let m : (v + f + b) * p ≡ (t + c * 256) * p = ap (λ z. z * p) d in omega arith

rest_digit : (t f b : ℕ) → t < 256 → f < 256 → b ≤ 1 → ((256 + t - f - b) % 256) + f + b ≡ t + (1 - (256 + t - f - b) / 256) * 256
rest_digit t f b ht hf hb = omega arith

pub distance_step : (to from gap : List ℕ) (i k b : ℕ) → length to ≡ i + 1 + k → length from ≡ i + 1 + k → length gap ≡ i + 1 + k
    → get_or to i 0 < 256 → get_or from i 0 < 256 → b ≤ 1
    → be_number (drop (i + 1) gap) + be_number (drop (i + 1) from) ≡ be_number (drop (i + 1) to) + b * 256 ^ k
    → be_number (drop i (set gap i ((256 + get_or to i 0 - get_or from i 0 - b) % 256))) + be_number (drop i from)
    ≡ be_number (drop i to) + (1 - (256 + get_or to i 0 - get_or from i 0 - b) / 256) * 256 ^ (k + 1)
distance_step to from gap i k b lt lf lg ht hf hb e =
    let g = be_number_set gap i k ((256 + get_or to i 0 - get_or from i 0 - b) % 256) (omega arith) lg in
    let f = be_number_from from i k (omega arith) lf in
    let t = be_number_from to i k (omega arith) lt in
    let d = digit_step ((256 + get_or to i 0 - get_or from i 0 - b) % 256) (get_or from i 0) (get_or to i 0) b (1 - (256 + get_or to i 0 - get_or from i 0 - b) / 256) (256 ^ k) (be_number (drop (i + 1) gap)) (be_number (drop (i + 1) from)) (be_number (drop (i + 1) to)) e (rest_digit (get_or to i 0) (get_or from i 0) b ht hf hb) in
    rw (g, f, t, pow_more k) d

-- a digit more
pub digit_fits : (x p r : ℕ) → x < 256 → r < p → x * p + r < 256 * p
digit_fits x p r h l = grind (arith, mul-add-lt-256)
  where
    mul-add-lt-256 : x * p + r < p * 256
    mul-add-lt-256 = mul-add-lt x p r 256 h l

pub be_number_below : (xs : List ℕ) → AreBytes xs → be_number xs < 256 ^ length xs
be_number_below [] h = omega arith
be_number_below (x ∷ xs) h = rw (pow-succ' 256 (length xs)) (digit_fits x (256 ^ length xs) (be_number xs) (h 0) (be_number_below xs (λ i. h (suc i))))

-- the difference on the circle
pub distance_at_end : (m f t g b : ℕ) → f < m → t < m → g < m → b ≤ 1 → g + f ≡ t + b * m → g ≡ (t + (m - f)) % m
distance_at_end m f t g zero hf ht hg hb e = sym (wraps m (t + (m - f)) g hg (omega arith))
  where
    wraps : (m s g : ℕ) → g < m → s ≡ m + g → s % m ≡ g
    wraps m s g h e = let one : m + g ≡ 1 * m + g = omega arith in rw (e, one) (mod-mul-add 1 m g h)
distance_at_end m f t g (suc zero) hf ht hg hb e = sym (stays m (t + (m - f)) g hg (omega arith))
  where
    stays : (m s g : ℕ) → g < m → s ≡ g → s % m ≡ g
    stays m s g h e = rw e (mod-eq_of_lt h)
distance_at_end m f t g (suc (suc b)) hf ht hg hb e = absurd (omega arith)

-- one digit more of a number that fits
pub from_fits : (xs : List ℕ) (i k : ℕ) → i < length xs → length xs ≡ i + 1 + k → get_or xs i 0 < 256
    → be_number (drop (i + 1) xs) < 256 ^ k → be_number (drop i xs) < 256 ^ (k + 1)
from_fits xs i k h e b r = rw (be_number_from xs i k h e, pow_more k) (digit_fits (get_or xs i 0) (256 ^ k) (be_number (drop (i + 1) xs)) b r)

pub set_fits : (xs : List ℕ) (i k v : ℕ) → i < length xs → length xs ≡ i + 1 + k → v < 256
    → be_number (drop (i + 1) xs) < 256 ^ k → be_number (drop i (set xs i v)) < 256 ^ (k + 1)
set_fits xs i k v h e b r = rw (be_number_set xs i k v h e, pow_more k) (digit_fits v (256 ^ k) (be_number (drop (i + 1) xs)) b r)

-- what the loop of `distance` keeps, with j digits to go
pub record IsDistanceSoFar (to from gap : List ℕ) (j b : ℕ) : Type 0 where
  pub within : j ≤ 20
  pub sized : length gap ≡ 20
  pub one : b ≤ 1
  pub from_fits : be_number (drop j from) < 256 ^ (20 - j)
  pub to_fits : be_number (drop j to) < 256 ^ (20 - j)
  pub gap_fits : be_number (drop j gap) < 256 ^ (20 - j)
  pub so_far : be_number (drop j gap) + be_number (drop j from) ≡ be_number (drop j to) + b * 256 ^ (20 - j)

pub distance_start : (to from gap : List ℕ) → length to ≡ 20 → length from ≡ 20 → length gap ≡ 20 → IsDistanceSoFar to from gap 20 0
distance_start to from gap lt lf lg =
    let t : be_number (drop 20 to) ≡ 0 = ap be_number (drop_all 20 to (omega arith)) in
    let f : be_number (drop 20 from) ≡ 0 = ap be_number (drop_all 20 from (omega arith)) in
    let g : be_number (drop 20 gap) ≡ 0 = ap be_number (drop_all 20 gap (omega arith)) in
    record { within = omega arith; sized = lg; one = omega arith; from_fits = omega arith; to_fits = omega arith; gap_fits = omega arith; so_far = omega arith }

pub distance_more : (to from gap : List ℕ) (j b : ℕ) → 0 < j → length to ≡ 20 → length from ≡ 20
    → get_or to (j - 1) 0 < 256 → get_or from (j - 1) 0 < 256 → IsDistanceSoFar to from gap j b
    → IsDistanceSoFar to from (set gap (j - 1) ((256 + get_or to (j - 1) 0 - get_or from (j - 1) 0 - b) % 256)) (j - 1) (1 - (256 + get_or to (j - 1) 0 - get_or from (j - 1) 0 - b) / 256)
distance_more to from gap j b pos lt lf bt bf h =
    let lg : length gap ≡ 20 = h.sized in
    let back : (j - 1) + 1 ≡ j = omega arith in
    let left : 20 - (j - 1) ≡ (20 - j) + 1 = omega arith in
    let w : j ≤ 20 = h.within in
    let size_t : length to ≡ (j - 1) + 1 + (20 - j) = omega arith in
    let size_f : length from ≡ (j - 1) + 1 + (20 - j) = omega arith in
    let size_g : length gap ≡ (j - 1) + 1 + (20 - j) = omega arith in
    record {
      within = omega arith;
      sized = rw length-set h.sized;
      one = omega arith;
      from_fits = rw left (from_fits from (j - 1) (20 - j) (omega arith) size_f bf (rw back h.from_fits));
      to_fits = rw left (from_fits to (j - 1) (20 - j) (omega arith) size_t bt (rw back h.to_fits));
      gap_fits = rw left (set_fits gap (j - 1) (20 - j) _ (omega arith) size_g (mod_below (256 + get_or to (j - 1) 0 - get_or from (j - 1) 0 - b) 256 (omega arith)) (rw back h.gap_fits));
      so_far = rw left (distance_step to from gap (j - 1) (20 - j) b size_t size_f size_g bt bf h.one (rw back h.so_far));
    }

pub distance_end : (to from gap : List ℕ) (j b : ℕ) → j ≤ 0 → IsDistanceSoFar to from gap j b → be_number gap ≡ clockwise (be_number from) (be_number to)
distance_end to from gap zero b z h = distance_at_end circle_size (be_number from) (be_number to) (be_number gap) b h.from_fits h.to_fits h.gap_fits h.one h.so_far
distance_end to from gap (suc j) b z h = absurd (omega arith)

-- ---- a sum

sum_step : (v c a b d p o q r : ℕ) → o + d * p ≡ q + r → v + c * 256 ≡ a + b + d
    → (v * p + o) + c * (256 * p) ≡ (a * p + q) + (b * p + r)
sum_step v c a b d p o q r e h = let m : (v + c * 256) * p ≡ (a + b + d) * p = ap (λ z. z * p) h in omega arith

pub record IsSumSoFar (a b place : List ℕ) (j c : ℕ) : Type 0 where
  pub within : j ≤ 20
  pub sized : length place ≡ 20
  pub one : c ≤ 1
  pub fits : be_number (drop j place) < 256 ^ (20 - j)
  pub so_far : be_number (drop j place) + c * 256 ^ (20 - j) ≡ be_number (drop j a) + be_number (drop j b)

pub sum_start : (a b place : List ℕ) → length a ≡ 20 → length b ≡ 20 → length place ≡ 20 → IsSumSoFar a b place 20 0
sum_start a b place la lb lp =
    let t : be_number (drop 20 a) ≡ 0 = ap be_number (drop_all 20 a (omega arith)) in
    let f : be_number (drop 20 b) ≡ 0 = ap be_number (drop_all 20 b (omega arith)) in
    let g : be_number (drop 20 place) ≡ 0 = ap be_number (drop_all 20 place (omega arith)) in
    record { within = omega arith; sized = lp; one = omega arith; fits = omega arith; so_far = omega arith }

pub sum_more : (a b place : List ℕ) (j c : ℕ) → 0 < j → length a ≡ 20 → length b ≡ 20
    → get_or a (j - 1) 0 < 256 → get_or b (j - 1) 0 < 256 → IsSumSoFar a b place j c
    → IsSumSoFar a b (set place (j - 1) ((get_or a (j - 1) 0 + get_or b (j - 1) 0 + c) % 256)) (j - 1) ((get_or a (j - 1) 0 + get_or b (j - 1) 0 + c) / 256)
sum_more a b place j c pos la lb ba bb h =
    let back : (j - 1) + 1 ≡ j = omega arith in
    let left : 20 - (j - 1) ≡ (20 - j) + 1 = omega arith in
    let w : j ≤ 20 = h.within in
    let o : c ≤ 1 = h.one in
    let lp : length place ≡ 20 = h.sized in
    let size_a : length a ≡ (j - 1) + 1 + (20 - j) = omega arith in
    let size_b : length b ≡ (j - 1) + 1 + (20 - j) = omega arith in
    let size_p : length place ≡ (j - 1) + 1 + (20 - j) = omega arith in
    let in_a : j - 1 < length a = omega arith in
    let in_b : j - 1 < length b = omega arith in
    let in_p : j - 1 < length place = omega arith in
    let e_a = be_number_from a (j - 1) (20 - j) in_a size_a in
    let e_b = be_number_from b (j - 1) (20 - j) in_b size_b in
    let e_p = be_number_set place (j - 1) (20 - j) ((get_or a (j - 1) 0 + get_or b (j - 1) 0 + c) % 256) in_p size_p in
    let before : be_number (drop (j - 1 + 1) place) + c * 256 ^ (20 - j) ≡ be_number (drop (j - 1 + 1) a) + be_number (drop (j - 1 + 1) b) = rw back h.so_far in
    let digit : (get_or a (j - 1) 0 + get_or b (j - 1) 0 + c) % 256 + (get_or a (j - 1) 0 + get_or b (j - 1) 0 + c) / 256 * 256 ≡ get_or a (j - 1) 0 + get_or b (j - 1) 0 + c = omega arith in
    record {
      within = omega arith;
      sized = rw length-set h.sized;
      one = omega arith;
      fits = rw left (set_fits place (j - 1) (20 - j) _ in_p size_p (mod_below (get_or a (j - 1) 0 + get_or b (j - 1) 0 + c) 256 (omega arith)) (rw back h.fits));
      so_far = rw (left, e_p, e_a, e_b, pow_more (20 - j)) (sum_step ((get_or a (j - 1) 0 + get_or b (j - 1) 0 + c) % 256) ((get_or a (j - 1) 0 + get_or b (j - 1) 0 + c) / 256) (get_or a (j - 1) 0) (get_or b (j - 1) 0) c (256 ^ (20 - j)) (be_number (drop (j - 1 + 1) place)) (be_number (drop (j - 1 + 1) a)) (be_number (drop (j - 1 + 1) b)) before digit);
    }

sum_at_end : (m p c s : ℕ) → p < m → p + c * m ≡ s → p ≡ s % m
sum_at_end m p c s h e = rw (sym e, add-mul-mod_self_right p c m) (sym (mod-eq_of_lt h))

pub sum_end : (a b place : List ℕ) (j c : ℕ) → j ≤ 0 → IsSumSoFar a b place j c → be_number place ≡ (be_number a + be_number b) % circle_size
sum_end a b place zero c z h = sum_at_end circle_size (be_number place) c (be_number a + be_number b) h.fits h.so_far
sum_end a b place (suc j) c z h = absurd (omega arith)

-- ---- words

-- two, four and eight digits more
pub two_digits : (xs : List ℕ) (i k : ℕ) → length xs ≡ i + 2 + k
    → be_number (drop i xs) ≡ (get_or xs i 0 * 256 + get_or xs (i + 1) 0) * 256 ^ k + be_number (drop (i + 2) xs)
two_digits xs i k l =
    let two : i + 1 + 1 ≡ i + 2 = omega arith in
    let first = be_number_from xs i (k + 1) (omega arith) (omega arith) in
    let second : be_number (drop (i + 1) xs) ≡ get_or xs (i + 1) 0 * 256 ^ k + be_number (drop (i + 2) xs) = rw (sym two) (be_number_from xs (i + 1) k (omega arith) (omega arith)) in
    rw (first, second, pow_more k) (joined (get_or xs i 0) (get_or xs (i + 1) 0) (256 ^ k) (be_number (drop (i + 2) xs)))
  where
    joined : (v w p r : ℕ) → v * (256 * p) + (w * p + r) ≡ (v * 256 + w) * p + r
    joined v w p r = omega arith

pub four_digits : (xs : List ℕ) (i k : ℕ) → length xs ≡ i + 4 + k
    → be_number (drop i xs) ≡ ((get_or xs i 0 * 256 + get_or xs (i + 1) 0) * 65536 + (get_or xs (i + 2) 0 * 256 + get_or xs (i + 3) 0)) * 256 ^ k + be_number (drop (i + 4) xs)
four_digits xs i k l =
    let three : i + 2 + 1 ≡ i + 3 = omega arith in
    let four : i + 2 + 2 ≡ i + 4 = omega arith in
    let first = two_digits xs i (k + 2) (omega arith) in
    let second : be_number (drop (i + 2) xs) ≡ (get_or xs (i + 2) 0 * 256 + get_or xs (i + 3) 0) * 256 ^ k + be_number (drop (i + 4) xs) = rw (sym three, sym four) (two_digits xs (i + 2) k (omega arith)) in
    rw (first, second, pow-add 256 k 2) (joined (get_or xs i 0 * 256 + get_or xs (i + 1) 0) (get_or xs (i + 2) 0 * 256 + get_or xs (i + 3) 0) (256 ^ k) (be_number (drop (i + 4) xs)))
  where
    joined : (v w p r : ℕ) → v * (p * 65536) + (w * p + r) ≡ (v * 65536 + w) * p + r
    joined v w p r = omega arith

pub eight_digits : (xs : List ℕ) (i k : ℕ) → length xs ≡ i + 8 + k
    → be_number (drop i xs) ≡ (((get_or xs i 0 * 256 + get_or xs (i + 1) 0) * 65536 + (get_or xs (i + 2) 0 * 256 + get_or xs (i + 3) 0)) * 4294967296
    + ((get_or xs (i + 4) 0 * 256 + get_or xs (i + 5) 0) * 65536 + (get_or xs (i + 6) 0 * 256 + get_or xs (i + 7) 0))) * 256 ^ k + be_number (drop (i + 8) xs)
eight_digits xs i k l =
    let five : i + 4 + 1 ≡ i + 5 = omega arith in
    let six : i + 4 + 2 ≡ i + 6 = omega arith in
    let seven : i + 4 + 3 ≡ i + 7 = omega arith in
    let eight : i + 4 + 4 ≡ i + 8 = omega arith in
    let first = four_digits xs i (k + 4) (omega arith) in
    let second : be_number (drop (i + 4) xs) ≡ ((get_or xs (i + 4) 0 * 256 + get_or xs (i + 5) 0) * 65536 + (get_or xs (i + 6) 0 * 256 + get_or xs (i + 7) 0)) * 256 ^ k + be_number (drop (i + 8) xs) = rw (sym five, sym six, sym seven, sym eight) (four_digits xs (i + 4) k (omega arith)) in
    rw (first, second, pow-add 256 k 4) (joined _ _ (256 ^ k) (be_number (drop (i + 8) xs)))
  where
    joined : (v w p r : ℕ) → v * (p * 4294967296) + (w * p + r) ≡ (v * 4294967296 + w) * p + r
    joined v w p r = omega arith

bytes_behind : (n : ℕ) (xs : List ℕ) → AreBytes xs → AreBytes (drop n xs)
bytes_behind zero xs h = h
bytes_behind (suc n) [] h = h
bytes_behind (suc n) (x ∷ xs) h = bytes_behind n xs (λ i. h (suc i))

-- what follows a word is below the word's unit
pub rest_fits : (xs : List ℕ) (i : ℕ) → length xs ≡ 20 → i + 8 ≤ 20 → AreBytes xs → be_number (drop (i + 8) xs) < 256 ^ (12 - i)
rest_fits xs i l h bytes =
    let size : length (drop (i + 8) xs) ≡ 12 - i = omega (arith, length-drop (i + 8) xs) in
    subst (λ n. be_number (drop (i + 8) xs) < 256 ^ n) size (be_number_below (drop (i + 8) xs) (bytes_behind (i + 8) xs bytes))

-- a number by its words
pub double_word_is : (xs : List ℕ) (i word : ℕ) → length xs ≡ 20 → i + 8 ≤ 20
    → word ≡ from_be_bytes w64 (get_or xs i 0 ∷ get_or xs (i + 1) 0 ∷ get_or xs (i + 2) 0 ∷ get_or xs (i + 3) 0 ∷ get_or xs (i + 4) 0 ∷ get_or xs (i + 5) 0 ∷ get_or xs (i + 6) 0 ∷ get_or xs (i + 7) 0 ∷ [])
    → be_number (drop i xs) ≡ word * 256 ^ (12 - i) + be_number (drop (i + 8) xs)
double_word_is xs i word l h e =
    let spelt : word ≡ ((get_or xs i 0 * 256 + get_or xs (i + 1) 0) * 65536 + (get_or xs (i + 2) 0 * 256 + get_or xs (i + 3) 0)) * 4294967296
    + ((get_or xs (i + 4) 0 * 256 + get_or xs (i + 5) 0) * 65536 + (get_or xs (i + 6) 0 * 256 + get_or xs (i + 7) 0)) = omega (arith, e) in
    rw spelt (eight_digits xs i (12 - i) (omega arith))

pub last_word_is : (xs : List ℕ) (word : ℕ) → length xs ≡ 20
    → word ≡ from_be_bytes w32 (get_or xs 16 0 ∷ get_or xs 17 0 ∷ get_or xs 18 0 ∷ get_or xs 19 0 ∷ [])
    → be_number (drop 16 xs) ≡ word
last_word_is xs word l e =
    let rest : be_number (drop 20 xs) ≡ 0 = ap be_number (drop_all 20 xs (omega arith)) in
    omega (arith, e, rest, four_digits xs 16 0 (omega arith))

-- ---- a power of two

zeros : (n : ℕ) → be_number (replicate n 0) ≡ 0
zeros zero = refl
zeros (suc n) = let h = zeros n in omega arith

pub be_number_one_digit : (n i v : ℕ) → i < n → be_number (set (replicate n 0) i v) ≡ v * 256 ^ (n - 1 - i)
be_number_one_digit zero i v h = absurd (omega arith)
be_number_one_digit (suc n) zero v h =
    let e : suc n - 1 - zero ≡ n = omega arith in
    rw (e, length-replicate {A = ℕ} n 0, zeros n) (omega arith)
be_number_one_digit (suc n) (suc i) v h =
    let e : suc n - 1 - suc i ≡ n - 1 - i = omega arith in
    rw e (let r = be_number_one_digit n i v (omega arith) in omega arith)

pow_256 : (m : ℕ) → 256 ^ m ≡ 2 ^ (8 * m)
pow_256 zero = refl
pow_256 (suc m) =
    let e : 8 * suc m ≡ 8 + 8 * m = omega arith in
    rw (e, pow-add 2 8 (8 * m), pow-succ' 256 m, pow_256 m) refl

pub power_number : (place : ℕ) → place < 160 → be_number (set (replicate 20 0) (19 - place / 8) (2 ^ (place % 8))) ≡ 2 ^ place
power_number place h =
    let i : 19 - place / 8 < 20 = omega arith in
    let back : 20 - 1 - (19 - place / 8) ≡ place / 8 = omega arith in
    let whole : place % 8 + 8 * (place / 8) ≡ place = omega arith in
    be_number_one_digit 20 (19 - place / 8) (2 ^ (place % 8)) i
    ∙ rw (back, pow_256 (place / 8)) (sym (pow-add 2 (place % 8) (8 * (place / 8))))
    ∙ ap (λ n. 2 ^ n) whole

-- a bit of a byte
pub bit_number : (place : ℕ) → (1 * 2 ^ (place % 8)) % 256 ≡ 2 ^ (place % 8)
bit_number place =
    let low : place % 8 < 8 = omega arith in
    let fits : 2 ^ (place % 8) < 2 ^ 8 = pow_below (place % 8) 8 low in
    let one : 1 * 2 ^ (place % 8) ≡ 2 ^ (place % 8) = omega arith in
    rw one (mod-eq_of_lt fits)
