-- A word is a number exactly where it is what `decimal` writes of it.
use Rattle.std.proofs.Common.{◌≡◌, ℕ, ◌^◌, ◌<◌, ◌≤◌, ◌==◌, Bool, true, false, ◌&&◌, ◌||◌, not, nat_lt, nat_eq, List, [], ◌∷◌, length, get_or, Some, refl, ap, sym, ◌∙◌, inl, inr, arith, rules, eqb-true, eq-eqb}
use Rattle.std.specs.Prelude.{◌↔◌}
use Rattle.std.specs.Char.{is_ascii_digit}
use Rattle.std.specs.Fmt.{decimal}
use Rattle.std.specs.List.{list_all}
use Rattle.std.proofs.lemmas.Bool.{lt-ltb, ltb-true, and_parts, cases_lt}
use Rattle.std.proofs.lemmas.Fmt.{digits_decimal, digits_value-decimal, decimal-digits_value, decimal_nonempty, first_decimal, decimal_digit}
use Rattle.std.proofs.lemmas.Option.{cond_some}
use Rattle.std.proofs.lemmas.Str.Parse.{IsNumeralModel, numerals_by_fold}
use Rattle.script_model.specs.Words.{is_decimal, decimal_value, number_below}
use Rattle.command_lines.proofs.DigitLemmas.{value_after}

own : IsNumeralModel (λ ds. list_all is_ascii_digit ds ≡ true) decimal_value
own = numerals_by_fold _ (search rules) value_after (search rules)

-- ---- from a number to its text

alone_passes : (zero_first : Bool) (others : ℕ) → (zero_first ≡ true → others ≡ 0) → (not zero_first || nat_eq others 0) ≡ true
alone_passes true others h = eq-eqb others 0 (h refl)
alone_passes false others h = refl

is_decimal-digits : (word : List ℕ) → list_all is_ascii_digit word ≡ true → 0 < length word → (get_or word 0 0 ≡ 48 → length word ≡ 1) → is_decimal word ≡ true
is_decimal-digits [] all some alone = absurd (omega arith)
is_decimal-digits (d ∷ ds) all some alone = rw all (alone_passes (d == 48) (length ds) (λ e. omega (arith, alone (eqb-true d 48 e))))

zero_alone : (n : ℕ) → n < 2 ^ 64 → get_or (decimal n) 0 0 ≡ 48 → length (decimal n) ≡ 1
zero_alone n fits e =
    elim (cases_lt 0 n) [
      | inl above ↦ absurd (omega (arith, first_decimal n above fits, e))
      | inr least ↦
          let zero : n ≡ 0 = omega arith in
          ap (λ m. length (decimal m)) zero ∙ ap length (decimal_digit 0 (omega arith))
    ]

is_decimal-decimal : (n : ℕ) → n < 2 ^ 64 → is_decimal (decimal n) ≡ true
is_decimal-decimal n fits = is_decimal-digits (decimal n) (digits_decimal own n fits) (decimal_nonempty n fits) (zero_alone n fits)

-- ---- from a text to its number

passes_alone : (zero_first : Bool) (others : ℕ) → (not zero_first || nat_eq others 0) ≡ true → zero_first ≡ true → others ≡ 0
passes_alone true others h e = eqb-true others 0 h
passes_alone false others h e = absurd (cc)

is_decimal-decimal_value : (word : List ℕ) → is_decimal word ≡ true → decimal_value word < 2 ^ 64 → word ≡ decimal (decimal_value word)
is_decimal-decimal_value [] is fits = absurd (cc)
is_decimal-decimal_value (d ∷ ds) is fits =
    let parts = and_parts (list_all is_ascii_digit (d ∷ ds)) (not (d == 48) || nat_eq (length ds) 0) is in
    sym (decimal-digits_value own (d ∷ ds) parts.0 (omega arith) (λ e. omega (arith, passes_alone (d == 48) (length ds) parts.1 (eq-eqb d 48 e))) fits)

number_of_text : (limit n : ℕ) (word : List ℕ) → limit ≤ 2 ^ 64 → number_below limit word ≡ Some n → (word ≡ decimal n) × (n < limit)
number_of_text limit n word le e =
    let found = cond_some (is_decimal word && nat_lt (decimal_value word) limit) (decimal_value word) n e in
    let tests = and_parts (is_decimal word) (nat_lt (decimal_value word) limit) found.0 in
    let below : decimal_value word < limit = ltb-true (decimal_value word) limit tests.1 in (
      is_decimal-decimal_value word tests.0 (omega arith) ∙ ap decimal found.1,
      omega (arith, found.1),
    )

text_of_number : (limit n : ℕ) (word : List ℕ) → limit ≤ 2 ^ 64 → word ≡ decimal n → n < limit → number_below limit word ≡ Some n
text_of_number limit n word le e below =
    let fits : n < 2 ^ 64 = omega arith in
    ap (number_below limit) e ∙ rw (is_decimal-decimal n fits, digits_value-decimal own n fits, lt-ltb n limit below) refl

-- for limits up to 2 ^ 64, a word is the number n exactly where it is what `decimal` writes of n, and n is below the limit
pub number_below-decimal : (limit n : ℕ) (word : List ℕ) → limit ≤ 2 ^ 64 → (number_below limit word ≡ Some n) ↔ ((word ≡ decimal n) × (n < limit))
number_below-decimal limit n word le = (number_of_text limit n word le, λ h. text_of_number limit n word le h.0 h.1)
