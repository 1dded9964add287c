-- Routes: what a node answers when it is asked for a key's owners.
use Rattle.std.specs.Prelude.{◌≡◌, ℕ, ◌*◌, true, nat_lt, nat_eq, not, if◌then◌else◌, List, [], ◌∷◌, ◌++◌, length, filter, ⊤}
use Rattle.std.specs.List.{AllByRecursion}
use Rattle.ring_model.specs.Arc.{is_strictly_between}
use Rattle.ring_model.specs.Members.{IsAmong}
use Rattle.ring_model.specs.Ring.{Links}

-- the nodes that are nearer to the key, nearest first, and those that own it as far as the asked node knows
pub record Route (A : Type 0) : Type 0 where
  pub nearer : List A
  pub owners : List A

module _ {A : Type 0} (place : A → ℕ) where
  -- the entries that aren't strictly between n and the key, and n where the list isn't full
  abbrev pub owners_part : ℕ → A → List A → ℕ → List A
  owners_part r n list key = filter (λ m. not (is_strictly_between (place n) (place m) key)) list
      ++ (if nat_lt (length list) (2 * r) then n ∷ [] else [])

  -- x put where it belongs among entries that stand nearest to the key first; an entry at its place keeps it out
  abbrev pub with_nearer : ℕ → A → List A → List A
  with_nearer key x [] = x ∷ []
  with_nearer key x (y ∷ ys) = if nat_eq (place x) (place y) then y ∷ ys else if is_strictly_between (place y) (place x) key then x ∷ y
      ∷ ys else y
      ∷ with_nearer key x ys

  -- those of the entries that are strictly between n and the key, put among others
  abbrev pub nearer_with : A → ℕ → List A → List A → List A
  nearer_with n key [] found = found
  nearer_with n key (x ∷ xs) found =
      nearer_with n key xs (if is_strictly_between (place n) (place x) key then with_nearer key x found else found)

  -- the entries of the list and the fingers that are strictly between n and the key, nearest to the key first, none twice
  abbrev pub nearer_part : A → Links A → ℕ → List A
  nearer_part n links key = nearer_with n key links.fingers (nearer_with n key links.list [])

  -- the route that n answers
  abbrev pub route_of : ℕ → A → Links A → ℕ → Route A
  route_of r n links key = record { nearer = nearer_part n links key; owners = owners_part r n links.list key }

  -- among a node's entries and fingers one place has one node
  abbrev pub HasOneAtEach : Links A → Type 0
  HasOneAtEach links = (x y : A) → IsAmong x (links.list ++ links.fingers) → IsAmong y (links.list ++ links.fingers) → place x ≡ place y
      → x ≡ y

  -- each is nearer to the key than those after it
  abbrev pub IsNearestFirst : ℕ → List A → Type 0
  IsNearestFirst key [] = ⊤
  IsNearestFirst key (x ∷ xs) = AllByRecursion (λ y. is_strictly_between (place y) (place x) key ≡ true) xs × IsNearestFirst key xs

  -- a route that n may answer: the nearer nodes are those of n's entries and fingers that are strictly between n and the key, nearest first
  pub record IsRoute (r : ℕ) (n : A) (links : Links A) (key : ℕ) (route : Route A) : Type 0 where
    pub inside : (m : A) → IsAmong m route.nearer → is_strictly_between (place n) (place m) key ≡ true
    pub whole : (m : A) → IsAmong m (links.list ++ links.fingers) → is_strictly_between (place n) (place m) key ≡ true
        → IsAmong m route.nearer
    pub from : (m : A) → IsAmong m route.nearer → IsAmong m (links.list ++ links.fingers)
    pub order : IsNearestFirst key route.nearer
    pub owners : route.owners ≡ owners_part r n links.list key
