-- What keepers in memory do with names.
use Rattle.std.specs.Prelude.{◌≡◌, ◌≢◌, ℕ, List, Option, Some}
use Rattle.ivy_io.specs.Keepers.{KeeperState}
use Rattle.ivy_io.specs.declared.mem_keepers.Place.{Place}
use Rattle.ivy_io.specs.Names.{HasPlace, given, laid, lying}

-- a name whose keeper was given has a place
abbrev pub PlacesGiven : Type 0
PlacesGiven = (name : List ℕ) (places : List Place) → HasPlace name (given name places)

-- what is laid at a place lies there
abbrev pub LiesWhereLaid : Type 0
LiesWhereLaid = (name : List ℕ) (keeper : KeeperState) (places : List Place) → HasPlace name places
    → lying name (laid name (Some keeper) places) ≡ Some keeper

-- the name keeps its place, and the keeper that lies there
abbrev pub StaysAt : List ℕ → List Place → List Place → Type 0
StaysAt name old new = (HasPlace name old → HasPlace name new) × (lying name new ≡ lying name old)

-- another name's keeper that is given, or comes back, changes nothing of it
abbrev pub OthersStay : Type 0
OthersStay = (name other : List ℕ) (keeper : Option KeeperState) (places : List Place) → other ≢ name
    → StaysAt other places (given name places) × StaysAt other places (laid name keeper places)
