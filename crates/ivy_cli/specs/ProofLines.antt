-- A fork proof in hexadecimal digits: the bytes that one line of them is, and what is read of a source.
use Rattle.std.specs.Prelude.{◌≡◌, ◌<◌, ◌≤◌, ◌-◌, ◌%◌, ◌==◌, ◌&&◌, nat_eq, nat_le, ℕ, Bool, true, false, List, [], ◌∷◌, ◌++◌, length, take}
use Rattle.std.specs.Prelude.{Option, None, if◌then◌else◌}
use Rattle.std.specs.List.{ends_with, list_all}
use Rattle.hex.specs.Hex.{decode_of}
use Rattle.ivy_io.specs.Known.{IsAtEnd, onto}
use Rattle.script_model.specs.Words.{is_lower_hex, ok_value}

-- ---- the line

-- the most digits of a line
abbrev pub most_digits : ℕ
most_digits = 33554432

-- no more bytes are read than show that a line has too many: its digits, a newline and one more
abbrev pub most_read : ℕ
most_read = 33554434

-- the line without its newline, which may lack
abbrev pub digits_of : List ℕ → List ℕ
digits_of input = if ends_with nat_eq input (10 ∷ []) then take (length input - 1) input else input

-- an even number of lower-case hexadecimal digits, 2 to 33,554,432
abbrev pub are_digits : List ℕ → Bool
are_digits digits = nat_le (length digits) most_digits && nat_le 2 (length digits) && length digits % 2 == 0 && list_all is_lower_hex digits

-- the bytes that an input is, if it is one line of such digits and nothing else
abbrev pub bytes_of : List ℕ → Option (List ℕ)
bytes_of input = if are_digits (digits_of input) then ok_value (decode_of (digits_of input)) else None

-- ---- what is read

-- what was read of a source: all that was left, or more than a line has
pub record IsInput (input : List ℕ) (before left : Option (List ℕ)) : Type 0 where
  pub few : length input ≤ most_read
  pub taken : before ≡ onto input left
  pub ends : length input < most_read → IsAtEnd left

-- so many bytes at most were taken of a source
abbrev pub TakesUpTo : ℕ → Option (List ℕ) → Option (List ℕ) → Type 0
TakesUpTo most before left = (taken : List ℕ) × (length taken ≤ most) × (before ≡ onto taken left)

-- an input grew by what was read of the source, or it is whole
abbrev pub Grows : Bool → List ℕ → List ℕ → Option (List ℕ) → Option (List ℕ) → Type 0
Grows true old new before left = (taken : List ℕ) × (0 < length taken) × (new ≡ old ++ taken) × (before ≡ onto taken left)
Grows false old new before left = (new ≡ old) × (left ≡ before) × (length old < most_read → IsAtEnd left)
