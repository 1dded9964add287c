-- Keepers in memory under their names.
use Rattle.std.specs.Prelude.{◌≡◌, ℕ, Bool, true, List, [], ◌∷◌, ◌++◌, Option, Some, None, is_some, find, option_and_then, if◌then◌else◌}
use Rattle.std.specs.Str.{bytes_eq}
use Rattle.ivy_io.specs.Causes.{counted}
use Rattle.ivy_io.specs.Keepers.{KeeperState, after_save, fresh_keeper_state}
use Rattle.ivy_io.specs.Faults.{after_return}
use Rattle.ivy_io.specs.declared.mem_keepers.Place.{Place}

-- a keeper that keeps this, has not failed, and of whose saves none is to fail
abbrev pub keeping : Option (List ℕ) → KeeperState
keeping None = fresh_keeper_state
keeping (Some bytes) = after_save fresh_keeper_state bytes

-- the place is of that name
abbrev pub is_at : List ℕ → Place → Bool
is_at name place = bytes_eq place.name name

-- the name has a place
abbrev pub HasPlace : List ℕ → List Place → Type 0
HasPlace name places = is_some (find (is_at name) places) ≡ true

-- the keeper that lies under the name
abbrev pub lying : List ℕ → List Place → Option KeeperState
lying name places = option_and_then (λ place. place.keeper) (find (is_at name) places)

-- what the keeper of that name keeps: nothing where none lies there
abbrev pub kept_under : List ℕ → List Place → Option (List ℕ)
kept_under name places = option_and_then (λ keeper. keeper.kept) (lying name places)

-- the places, where this lies at the name, if the name has a place
abbrev pub laid : List ℕ → Option KeeperState → List Place → List Place
laid name keeper [] = []
laid name keeper (place ∷ places) =
    if is_at name place then record { name = place.name; keeper = keeper } ∷ places else place ∷ laid name keeper places

-- the places after the keeper of the name was given: from then on the name has one, and nothing lies there
abbrev pub given : List ℕ → List Place → List Place
given name places = if is_some (find (is_at name) places) then laid name None places else places
    ++ record { name = name; keeper = None } ∷ []

-- The places; which calls of `keeper` fail, by their numbers; how many there were, and how often a call failed or a keeper came
-- back that had failed (counts that reached 2^64 - 1 stay there).
pub record KeepersState : Type 0 where
  pub places : List Place
  pub failing : List ℕ
  pub calls : ℕ
  pub faults : ℕ

abbrev pub after_keeper : List ℕ → KeepersState → KeepersState
after_keeper name k = record k { places = given name k.places; calls = counted k.calls }

abbrev pub after_fault : KeepersState → KeepersState
after_fault k = record k { calls = counted k.calls; faults = counted k.faults }

-- after a keeper came back under the name
abbrev pub with_taken : List ℕ → KeeperState → KeepersState → KeepersState
with_taken name keeper k = record k { places = laid name (Some keeper) k.places; faults = after_return keeper.faults k.faults }
