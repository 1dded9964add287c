-- A well-formed name passes every check of a name.
use Rattle.std.proofs.Common.{◌≡◌, ◌≢◌, ℕ, Bool, true, false, ◌||◌, List, [], ◌∷◌, length, refl, ap, arith}
use Rattle.std.specs.Prelude.{◌==◌, Contains}
use Rattle.std.specs.List.{list_any}
use Rattle.std.specs.Cmp.{Equal-is, tied_itself}
use Rattle.std.specs.Cmp.Lexicographic.{slice_cmp, nat_list_cmp_total}
use Rattle.std.specs.Ordering.{nat_cmp, is_eq}
use Rattle.std.proofs.lemmas.Bool.{le-ltb, ne_eqb}
use Rattle.std.proofs.lemmas.List.Elements.{Contains-append_right}
use Rattle.std.proofs.lemmas.Map.Lookups.{exact_bytes}
use Rattle.ivy_base.specs.Naming.{IsFileName}
use Rattle.nfs_model.specs.Checks.{same_bytes, too_long_name, invalid_name, is_dot, is_dot_dot}

pub same_bytes_is : (xs ys : List ℕ) → same_bytes xs ys ≡ true → xs ≡ ys
same_bytes_is xs ys h = exact_bytes xs ys ((Equal-is (slice_cmp nat_cmp xs ys)).0 h)

pub same_bytes_itself : (xs : List ℕ) → same_bytes xs xs ≡ true
same_bytes_itself xs = ap is_eq (tied_itself nat_list_cmp_total xs)

other_bytes : (xs ys : List ℕ) → xs ≢ ys → (b : Bool) → same_bytes xs ys ≡ b → b ≡ false
other_bytes xs ys apart true h = absurd (apart (same_bytes_is xs ys h))
other_bytes xs ys apart false h = refl

pub same_bytes_apart : (xs ys : List ℕ) → xs ≢ ys → same_bytes xs ys ≡ false
same_bytes_apart xs ys apart = other_bytes xs ys apart (same_bytes xs ys) refl

first_is : (x y : ℕ) (xs : List ℕ) → x ≡ y → Contains (x ∷ xs) y
first_is x y xs e = (0, omega arith, e)

no_slash_or_zero : (bytes : List ℕ) → (Contains bytes 47 → ⊥) → (Contains bytes 0 → ⊥) → list_any (λ b. b == 47 || b == 0) bytes ≡ false
no_slash_or_zero [] slash zero = refl
no_slash_or_zero (x ∷ xs) slash zero =
    rw (ne_eqb x 47 (λ e. slash (first_is x 47 xs e)), ne_eqb x 0 (λ e. zero (first_is x 0 xs e)))
    (no_slash_or_zero xs (λ c. slash (Contains-append_right (x ∷ []) xs 47 c)) (λ c. zero (Contains-append_right (x ∷ []) xs 0 c)))

pub is_short_name : (name : List ℕ) → IsFileName name → (too_long_name name).0 ≡ false
is_short_name name f = le-ltb 255 (length name) f.short

pub is_valid_name : (name : List ℕ) → IsFileName name → (invalid_name name).0 ≡ false
is_valid_name name f = rw (ne_eqb (length name) 0 (λ e. absurd (omega (arith, f.some)))) (no_slash_or_zero name f.no_slash f.no_zero)

pub is_not_dot : (name : List ℕ) → IsFileName name → is_dot name ≡ false
is_not_dot name f = same_bytes_apart name (46 ∷ []) f.not_itself

pub is_not_dot_dot : (name : List ℕ) → IsFileName name → is_dot_dot name ≡ false
is_not_dot_dot name f = same_bytes_apart name (46 ∷ 46 ∷ []) f.not_parent
