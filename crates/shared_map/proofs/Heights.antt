-- The heights of trees that are joined, and how few entries a tree of a height can have.
use Rattle.std.proofs.Common.{◌≡◌, ℕ, zero, suc, ◌+◌, ◌*◌, ◌^◌, ◌<◌, ◌≤◌, inl, inr, arith}
use Rattle.std.specs.Prelude.{max}
use Rattle.std.proofs.Math.Pow.{pow_mono}
use Rattle.std.proofs.Math.Nat.{pow-suc, mul-le-mul_left}
use Rattle.std.proofs.Math.Numerals.{add-one}
use Rattle.std.proofs.lemmas.Bool.{cases_lt}
use Rattle.shared_map.specs.Trees.{DifferByAtMost, IsLow, IsSettled}

-- what joins a tree and one that may be two lower
squares : (x y p : ℕ) → 4 * p ≤ x * x → p ≤ y * y → 8 * p ≤ (x + y) * (x + y)
squares x y p high low = elim (cases_lt x (2 * y)) [
  | inl lt ↦ let more : x * x ≤ x * (2 * y) = mul-le-mul_left x (omega (arith, lt)) in omega (arith, high, low, more)
  | inr le ↦ let more : y * (2 * y) ≤ y * x = mul-le-mul_left y le in omega (arith, high, low, more)
]

two_at_least : (a b : ℕ) → 4 ≤ (a + 1 + (b + 1)) * (a + 1 + (b + 1))
two_at_least a b = omega arith

higher_first : (a b l r : ℕ) → IsLow a l → IsLow b r → r ≤ l → l ≤ r + 2 → 2 ^ suc l ≤ (a + 1 + (b + 1)) * (a + 1 + (b + 1))
higher_first a b zero r x y le ge = omega (arith, two_at_least a b)
higher_first a b (suc zero) r x y le ge = omega (arith, two_at_least a b)
higher_first a b (suc (suc j)) r x y le ge =
    let below : 2 ^ j ≤ 2 ^ r = pow_mono (omega (arith, ge)) in
    let once : 2 ^ suc j ≡ 2 * 2 ^ j = omega (arith, pow-suc j 2) in
    let twice : 2 ^ suc (suc j) ≡ 4 * 2 ^ j = omega (arith, once, pow-suc (suc j) 2) in
    let thrice : 2 ^ suc (suc (suc j)) ≡ 8 * 2 ^ j = omega (arith, twice, pow-suc (suc (suc j)) 2) in
    omega (arith, thrice, squares (a + 1) (b + 1) (2 ^ j) (omega (arith, x, twice)) (omega (arith, y, below)))

pub low_joined : (a b l r : ℕ) → IsLow a l → IsLow b r → DifferByAtMost 2 l r → IsLow (a + suc b) (max l r + 1)
low_joined a b l r x y d = elim (cases_lt l r) [
  | inl lt ↦ let m : max l r ≡ r = omega (arith, lt) in rw (m, add-one r) (omega (arith, higher_first b a r l y x (omega (arith, lt)) d.1))
  | inr le ↦ let m : max l r ≡ l = omega (arith, le) in rw (m, add-one l) (omega (arith, higher_first a b l r x y le d.0))
]

pub low_fits : (n h : ℕ) → IsLow n h → n < 2 ^ 64 → h < 130
low_fits n h low few = elim (cases_lt h 130) [
  | inl lt ↦ lt
  | inr le ↦
      let more : 2 ^ 130 ≤ 2 ^ h = pow_mono {i = 130} {j = h} le in
      let once : (n + 1) * (n + 1) ≤ (n + 1) * 2 ^ 64 = mul-le-mul_left (n + 1) (omega (arith, few)) in
      omega (arith, low, few, more, once)
]

pub low_with_more : (n m h : ℕ) → IsLow n h → n ≤ m → IsLow m h
low_with_more n m h low more =
    let once : (n + 1) * (n + 1) ≤ (n + 1) * (m + 1) = mul-le-mul_left (n + 1) (omega (arith, more)) in
    let twice : (m + 1) * (n + 1) ≤ (m + 1) * (m + 1) = mul-le-mul_left (m + 1) (omega (arith, more)) in
    omega (arith, low, once, twice)

-- a side that has grown as high as the node was makes the node grow by one at most
pub settled_grown : (l r side h : ℕ) → max l r + 1 ≤ side → side ≤ l + 1 → IsSettled side r h → (max l r + 1 ≤ h) × (h ≤ max l r + 2)
settled_grown l r side h high low s = (omega (arith, high, low, s.0, s.1), omega (arith, high, low, s.0, s.1))
