-- The members of a ring, each at a place of the circle.
use Rattle.std.specs.Prelude.{◌≡◌, ℕ, ◌<◌, nat_lt, nat_le, nat_eq, not, Bool, List, [], ◌∷◌, ◌++◌, take, filter, Option, Some, None, ◌⊎◌, ⊤}
use Rattle.std.specs.List.{AllByRecursion}

-- x is one of the list
abbrev pub IsAmong : {X : Type 0} → X → List X → Type 0
IsAmong x [] = ⊥
IsAmong x (y ∷ ys) = (y ≡ x) ⊎ IsAmong x ys

-- the first of a list
abbrev pub first : {X : Type 0} → List X → Option X
first [] = None
first (x ∷ xs) = Some x

module _ {A : Type 0} (place : A → ℕ) where
  -- the places ascend strictly
  abbrev pub HasAscendingPlaces : List A → Type 0
  HasAscendingPlaces [] = ⊤
  HasAscendingPlaces (x ∷ xs) = AllByRecursion (λ y. place x < place y) xs × HasAscendingPlaces xs

  -- the other members after n, clockwise (Chord: the successors of n)
  abbrev pub following : List A → A → List A
  following live n = filter (λ m. nat_lt (place n) (place m)) live ++ filter (λ m. nat_lt (place m) (place n)) live

  -- the members at a key or after it, clockwise (Chord: the first of them is the key's successor)
  abbrev pub from_place : List A → ℕ → List A
  from_place live key = filter (λ m. nat_le key (place m)) live ++ filter (λ m. nat_lt (place m) key) live

  -- the nodes that keep a key: the first r members at it or after it, all where there are fewer (CFS, SOSP 2001, section 5.1)
  abbrev pub owners : ℕ → List A → ℕ → List A
  owners r live key = take r (from_place live key)

  -- m stands elsewhere than x
  abbrev pub is_other : A → A → Bool
  is_other x m = not (nat_eq (place m) (place x))
