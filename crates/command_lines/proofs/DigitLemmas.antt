-- Reading digits one after the other.
use Rattle.std.proofs.Common.{◌≡◌, ℕ, ◌+◌, ◌-◌, ◌*◌, ◌^◌, ◌<◌, ◌≤◌, true, false, ◌&&◌, cond, nat_lt, List, [], ◌∷◌, length, get_or, drop, fold, Option, Some, None, refl, ◌∙◌, arith}
use Rattle.std.specs.Char.{is_ascii_digit}
use Rattle.std.specs.List.{list_all}
use Rattle.std.proofs.lemmas.Bool.{le-ltb, lt-ltb}
use Rattle.std.proofs.lemmas.List.{at_drop_more, drop_all}

-- the value of digits after a value that was read so far
abbrev pub value_after : ℕ → List ℕ → ℕ
value_after value digits = fold (λ n d. n * 10 + (d - 48)) value digits

-- the value of these bytes after a value, if they are digits and it is below 2 ^ 64
abbrev pub read_after : ℕ → List ℕ → Option ℕ
read_after value bytes = cond (list_all is_ascii_digit bytes && nat_lt (value_after value bytes) (2 ^ 64)) (Some (value_after value bytes)) None

pub read_other : (value byte : ℕ) (bytes : List ℕ) → is_ascii_digit byte ≡ false → read_after value (byte ∷ bytes) ≡ None
read_other value byte bytes other = rw other refl

pub read_digit : (value byte : ℕ) (bytes : List ℕ) → is_ascii_digit byte ≡ true → read_after value (byte ∷ bytes) ≡ read_after (value * 10 + (byte - 48)) bytes
read_digit value byte bytes digit = rw digit refl

grows : (value : ℕ) (digits : List ℕ) → value ≤ value_after value digits
grows value [] = omega arith
grows value (digit ∷ digits) = omega (arith, grows (value * 10 + (digit - 48)) digits)

-- a value that is too great stays so
pub read_great : (value : ℕ) (bytes : List ℕ) → 2 ^ 64 ≤ value → read_after value bytes ≡ None
read_great value bytes great =
    rw (le-ltb (value_after value bytes) (2 ^ 64) (omega (arith, grows value bytes)))
    (elim (list_all is_ascii_digit bytes) as (λ b. cond (b && false) (Some (value_after value bytes)) None ≡ None) [ true ↦ refl | false ↦ refl ])

-- at the next digit the value becomes too great
pub read_over : (value i : ℕ) (bytes : List ℕ) → i < length bytes → is_ascii_digit (get_or bytes i 0) ≡ true → 2 ^ 64 ≤ value * 10 + (get_or bytes i 0 - 48) → read_after value (drop i bytes) ≡ None
read_over value i bytes lt digit great =
    at_drop_more (λ rest. read_after value rest) bytes i 0 lt ∙ read_digit value (get_or bytes i 0) (drop (i + 1) bytes) digit
    ∙ read_great (value * 10 + (get_or bytes i 0 - 48)) (drop (i + 1) bytes) great

-- all digits were read
pub read_all : (value i : ℕ) (bytes : List ℕ) → length bytes ≤ i → value < 2 ^ 64 → read_after value (drop i bytes) ≡ Some value
read_all value i bytes le fits = rw (drop_all i bytes le, lt-ltb value (2 ^ 64) fits) refl
