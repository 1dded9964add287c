-- How much room is asked for before arguments are written.
use Rattle.std.specs.Prelude.{◌≡◌, ℕ, ◌+◌, List, [], ◌∷◌, length, Option, Some, None}
use Rattle.std.specs.List.{AllByRecursion}
use Rattle.xdr_codec.specs.Writing.{padded}
use Rattle.nfs_model.specs.declared.arguments.Args.{Args}
use Rattle.nfs3_args.specs.Writable.{IsShort, strings}

-- the strings with the zeros that fill them up
abbrev pub room_of : List (List ℕ) → ℕ
room_of [] = 0
room_of (bytes ∷ more) = padded (length bytes) + room_of more

-- 80 bytes hold all the rest of each form
abbrev pub room : Args → ℕ
room args = 80 + room_of (strings args)

-- the room for strings and what stands beside them; there is none where a string is too long for a word to count it
abbrev pub IsRoom : List (List ℕ) → Option ℕ → Type 0
IsRoom strings None = AllByRecursion IsShort strings → ⊥
IsRoom strings (Some bytes) = (bytes ≡ 80 + room_of strings) × AllByRecursion IsShort strings
