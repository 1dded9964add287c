-- The definitions, tried on a cache of three short blocks. Keys are short here, and aren't names.
use Rattle.std.proofs.Common.{◌≡◌, ℕ, List, [], ◌∷◌, Some, None, refl}
use Rattle.ivy_base.specs.declared.key.Key.{Key}
use Rattle.dhash_model.specs.Cache.{block_of, moved_to_front, kept}

abbrev short : ℕ → Key
short byte = record { 0 = byte ∷ [] }

abbrev pair : ℕ → Key × List ℕ
pair byte = (short byte, byte ∷ byte ∷ [])

abbrev three : List (Key × List ℕ)
three = pair 1 ∷ pair 2 ∷ pair 3 ∷ []

found : block_of (short 2) three ≡ Some (2 ∷ 2 ∷ [])
found = refl

missed : block_of (short 4) three ≡ None
missed = refl

to_front : moved_to_front (short 3) three ≡ pair 3 ∷ pair 1 ∷ pair 2 ∷ []
to_front = refl

as_before : moved_to_front (short 4) three ≡ three
as_before = refl

one_more : kept (short 4) (4 ∷ 4 ∷ []) three ≡ pair 4 ∷ pair 1 ∷ pair 2 ∷ pair 3 ∷ []
one_more = refl

in_place_of_the_older : kept (short 2) (9 ∷ []) three ≡ (short 2, 9 ∷ []) ∷ pair 1 ∷ pair 3 ∷ []
in_place_of_the_older = refl
