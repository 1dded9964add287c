-- The spellings of XDR's items (RFC 4506, section 4).
use Rattle.std.specs.Prelude.{◌≡◌, ℕ, ◌-◌, ◌%◌, ◌^◌, ◌<◌, ◌≤◌, Bool, true, false, List, ◌++◌, length, replicate, Option, Some, None}
use Rattle.std.specs.Int.{w32, w64, to_be_bytes}
use Rattle.std.specs.List.{AllByRecursion, flat_map}
use Rattle.ivy_base.specs.declared.operation.Moment.{Moment}

-- an unsigned integer (4.2), and an unsigned hyper integer (4.5)
abbrev pub word : ℕ → List ℕ
word n = to_be_bytes w32 n

abbrev pub double_word : ℕ → List ℕ
double_word n = to_be_bytes w64 n

-- a boolean (4.4)
abbrev pub boolean : Bool → List ℕ
boolean false = word 0
boolean true = word 1

-- the zeros after so many bytes, up to a multiple of four
abbrev pub padding : ℕ → List ℕ
padding n = replicate ((4 - n % 4) % 4) 0

-- opaque data of a fixed length (4.9)
abbrev pub fixed : List ℕ → List ℕ
fixed bytes = bytes ++ padding (length bytes)

-- opaque data of any length (4.10), and a string (4.11): the count of its bytes stands in front
abbrev pub opaque : List ℕ → List ℕ
opaque bytes = word (length bytes) ++ fixed bytes

-- optional data (4.19): a boolean, and the item where it is true
abbrev pub optional : {A : Type 0} → (A → List ℕ) → Option A → List ℕ
optional item None = boolean false
optional item (Some x) = boolean true ++ item x

-- an array of any length (4.13): the count of its items stands in front
abbrev pub array : {A : Type 0} → (A → List ℕ) → List A → List ℕ
array item xs = word (length xs) ++ flat_map item xs

-- a time of NFS (RFC 1813, section 2.5, nfstime3), and whether its two numbers are words
abbrev pub moment : Moment → List ℕ
moment m = word m.sec ++ word m.nsec

abbrev pub IsWordMoment : Moment → Type 0
IsWordMoment m = (m.sec < 2 ^ 32) × (m.nsec < 2 ^ 32)

-- ---- which values have these spellings

-- a number of four bytes, and one of eight
abbrev pub IsWord : ℕ → Type 0
IsWord n = n < 2 ^ 32

abbrev pub IsDoubleWord : ℕ → Type 0
IsDoubleWord n = n < 2 ^ 64

-- whatever it is
abbrev pub IsAny : {A : Type 0} → A → Type 0
IsAny x = Unit {0}

-- so many bytes, and at most so many
abbrev pub IsOfLength : ℕ → List ℕ → Type 0
IsOfLength n bytes = length bytes ≡ n

abbrev pub IsUpTo : ℕ → List ℕ → Type 0
IsUpTo most bytes = length bytes ≤ most

-- so many items, each of which fits
pub record AreSoMany {A : Type 0} (Fits : A → Type 0) (count : ℕ) (xs : List A) : Type 0 where
  pub each : AllByRecursion Fits xs
  pub size : length xs ≡ count
