-- Look-ups: the asks for a key's owners, and what comes of them (Chord, SIGCOMM 2001, section 4.3,
-- by asks of the one that looks up; that answers name several nodes, and the limit of 512, are this project's rules).
use Rattle.std.specs.Prelude.{◌≡◌, ℕ, suc, ◌<◌, ◌≤◌, Bool, true, false, List, [], ◌∷◌, ◌++◌, length, Option, Some, None}
use Rattle.ring_model.specs.Members.{IsAmong}
use Rattle.ring_model.specs.Ring.{Links}
use Rattle.ring_model.specs.Route.{Route, IsRoute}

-- From the nodes asked so far, the newest first, the owners that the last answer named and the nodes still to ask,
-- these asks follow, and these owners are found. The nodes are asked in order but for those asked before, an
-- answer's nearer nodes take the place of the rest, and nobody is asked after 512 asks.
pub data IsLookup {A : Type 0} : List A → Option (List A) → List A → List (A × Option (Route A)) → Option (List A) → Type 0 where
  over : {asked : List A} {last : Option (List A)} → IsLookup asked last [] [] last
  spent : {asked : List A} {last : Option (List A)} {ps : List A} → 512 ≤ length asked → IsLookup asked last ps [] last
  known : {asked : List A} {last : Option (List A)} {p : A} {ps : List A} {trail : List (A × Option (Route A))} {found : Option (List A)}
      → IsAmong p asked → IsLookup asked last ps trail found → IsLookup asked last (p ∷ ps) trail found
  silent : {asked : List A} {last : Option (List A)} {p : A} {ps : List A} {trail : List (A × Option (Route A))} {found : Option (List A)}
      → length asked < 512 → (IsAmong p asked → ⊥) → IsLookup (p ∷ asked) last ps trail found
      → IsLookup asked last (p ∷ ps) ((p, None) ∷ trail) found
  answered : {asked : List A} {last : Option (List A)} {p : A} {ps : List A} {route : Route A} {trail : List (A × Option (Route A))}
      {found : Option (List A)}
      → length asked < 512 → (IsAmong p asked → ⊥) → IsLookup (p ∷ asked) (Some route.owners) route.nearer trail found
      → IsLookup asked last (p ∷ ps) ((p, Some route) ∷ trail) found

-- how many of the nodes asked answered
abbrev pub answers_in : {A : Type 0} → List (A × Option (Route A)) → ℕ
answers_in [] = 0
answers_in ((p, None) ∷ trail) = answers_in trail
answers_in ((p, Some route) ∷ trail) = suc (answers_in trail)

-- what a node of the ring answers: a route where it lives, and else nothing
abbrev pub IsFate : {A : Type 0} → (A → ℕ) → ℕ → (A → Bool) → (A → Links A) → ℕ → A × Option (Route A) → Type 0
IsFate place r lives ring key (p, None) = lives p ≡ false
IsFate place r lives ring key (p, Some route) = (lives p ≡ true) × IsRoute place r p (ring p) key route

-- the nodes that a look-up may come to hear of: at most 512
pub record AreNames {A : Type 0} (live : List A) (ring : A → Links A) (entries names : List A) : Type 0 where
  pub few : length names ≤ 512
  pub first : (m : A) → IsAmong m entries → IsAmong m names
  pub linked : (n m : A) → IsAmong n live → IsAmong m ((ring n).list ++ (ring n).fingers) → IsAmong m names
