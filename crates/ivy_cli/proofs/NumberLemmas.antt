-- Numbers in decimal digits, as std's `parse` reads them.
use Rattle.std.proofs.Common.{◌≡◌, ℕ, ◌+◌, ◌-◌, ◌*◌, ◌^◌, ◌<◌, Bool, true, false, ◌&&◌, List, [], ◌∷◌, length, fold, Option, Some, Result, Ok, Err, refl, ap, ◌∙◌, inl, inr, arith, rules}
use Rattle.std.specs.Char.{is_ascii_digit}
use Rattle.std.specs.List.{list_all}
use Rattle.std.specs.Result.{result_ok, OkIff}
use Rattle.std.specs.Str.Parse.{ParsesUnsigned}
use Rattle.std.proofs.lemmas.Bool.{lt-ltb, le-ltb, cases_lt}
use Rattle.std.proofs.lemmas.Str.Parse.{IsNumeralModel, numerals_by_fold, parse_digits}
use Rattle.script_model.specs.Words.{is_decimal, decimal_value, number_below}

abbrev value_on : ℕ → List ℕ → ℕ
value_on n digits = fold (λ n d. n * 10 + (d - 48)) n digits

own : IsNumeralModel (λ ds. list_all is_ascii_digit ds ≡ true) (value_on 0)
own = numerals_by_fold _ (search rules) value_on (search rules)

first_holds : (a b : Bool) → (a && b) ≡ true → a ≡ true
first_holds true b both = refl
first_holds false b both = both

all_digits : (bs : List ℕ) → is_decimal bs ≡ true → list_all is_ascii_digit bs ≡ true
all_digits [] is = cc
all_digits (d ∷ ds) is = first_holds (list_all is_ascii_digit (d ∷ ds)) _ is

some_digit : (bs : List ℕ) → is_decimal bs ≡ true → 0 < length bs
some_digit [] is = absurd (cc is)
some_digit (d ∷ ds) is = omega arith

by_result : {E : Type 0} (limit : ℕ) (bs : List ℕ) (r : Result ℕ E) → is_decimal bs ≡ true → OkIff r ((0 < length bs) × (decimal_value bs < limit)) (decimal_value bs)
    → result_ok r ≡ number_below limit bs
by_result limit bs (Ok n) is gives = rw (is, lt-ltb (decimal_value bs) limit gives.0.1) (ap Some gives.1)
by_result limit bs (Err e) is gives = elim (cases_lt (decimal_value bs) limit) [
  | inl low ↦ absurd (gives (some_digit bs is, low))
  | inr high ↦ rw (is, le-ltb (decimal_value bs) limit high) refl
]

-- what `parse` gives of decimal digits is the number below the type's limit that they are
pub parsed : {E : Type 0} (k : ℕ) (bs : List ℕ) (r : Result ℕ E) (o : Option ℕ) → is_decimal bs ≡ true → ParsesUnsigned k 10 bs r → o ≡ result_ok r → o ≡ number_below (2 ^ k) bs
parsed k bs r o is parses gives = gives ∙ by_result (2 ^ k) bs r is (parse_digits own k bs r parses (all_digits bs is))
