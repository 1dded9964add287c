-- Laws of arcs.
use Rattle.std.proofs.Common.{◌≡◌, ℕ, ◌<◌, true, false, arith}
use Rattle.std.proofs.lemmas.Bool.Decides.{nat_tests}
use Rattle.ring_model.specs.Arc.{is_strictly_between}

pub is_inside-itself : (a b : ℕ) → is_strictly_between a a b ≡ false
is_inside-itself a b = grind (arith, nat_tests)

-- what is inside the rest of an arc is inside the arc
pub is_inside-later : (n m x key : ℕ) → is_strictly_between n m key ≡ true → is_strictly_between m x key ≡ true → is_strictly_between n x key ≡ true
is_inside-later n m x key h i = grind (arith, nat_tests)

-- what is left after isn't inside the rest
pub is_inside-back : (n m key : ℕ) → is_strictly_between n m key ≡ true → is_strictly_between m n key ≡ false
is_inside-back n m key h = grind (arith, nat_tests)

-- one that is inside an arc but neither before x nor after it is at x
pub is_inside-at : (n x s m : ℕ) → is_strictly_between n m s ≡ true → is_strictly_between n x s ≡ true → is_strictly_between n m x ≡ false → is_strictly_between x m s ≡ false → m ≡ x
is_inside-at n x s m h i j k = grind (arith, nat_tests)

-- what stands before one that is outside the arc is outside
pub is_inside-outside : (n x m key : ℕ) → (x ≡ n → ⊥) → is_strictly_between n x key ≡ false → is_strictly_between n m x ≡ false → is_strictly_between n m key ≡ true → ⊥
is_inside-outside n x m key d h i j = grind (arith, nat_tests)

-- places outside the arc from n to t
pub low : (n m t : ℕ) → n < t → m < n → is_strictly_between n m t ≡ false
low n m t u h = grind (arith, nat_tests)

pub at_n : (n m t : ℕ) → n < t → n ≡ m → is_strictly_between n m t ≡ false
at_n n m t u h = grind (arith, nat_tests)

pub at_s : (n m t : ℕ) → n < t → t ≡ m → is_strictly_between n m t ≡ false
at_s n m t u h = grind (arith, nat_tests)

pub high : (n m t : ℕ) → n < t → t < m → is_strictly_between n m t ≡ false
high n m t u h = grind (arith, nat_tests)

pub wrap_s : (n m t : ℕ) → t < n → t ≡ m → is_strictly_between n m t ≡ false
wrap_s n m t u h = grind (arith, nat_tests)

pub wrap_n : (n m t : ℕ) → t < n → n ≡ m → is_strictly_between n m t ≡ false
wrap_n n m t u h = grind (arith, nat_tests)

pub wrap_mid : (n m t : ℕ) → t < n → m < n → t < m → is_strictly_between n m t ≡ false
wrap_mid n m t u h i = grind (arith, nat_tests)

-- one that isn't after n before a has n after it
pub is_inside-turned : (n b a : ℕ) → is_strictly_between n b a ≡ false → (b ≡ n → ⊥) → (n ≡ a → ⊥) → is_strictly_between b n a ≡ true
is_inside-turned n b a h d e = grind (arith, nat_tests)

pub is_inside-first : (n x s : ℕ) → is_strictly_between n s x ≡ false → (s ≡ x → ⊥) → (x ≡ n → ⊥) → is_strictly_between n x s ≡ true
is_inside-first n x s h d e = grind (arith, nat_tests)
