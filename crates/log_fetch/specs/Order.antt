-- The heads of a log in the order in which they are tried.
use Rattle.std.specs.Prelude.{◌≡◌, ◌⊎◌, ◌↔◌, ℕ, ◌≤◌, List, [], ◌∷◌, ◌++◌, length, take, drop, Contains, Option}
use Rattle.std.specs.List.{AllByRecursion}
use Rattle.log_model.specs.Vector.{Stamp, reach}
use Rattle.turn_model.specs.Candidates.{IsTriedBefore}
use Rattle.session_model.specs.Walks.{AreTried, InTryingOrder}
use Rattle.session_model.specs.Refreshing.{floors_own}

-- those of the heads that are tried, and after them the floor's own
abbrev pub AreToTry : List Stamp → Option Stamp → ℕ → List Stamp → Type 0
AreToTry heads floor held all = (tried : List Stamp) × AreTried (reach floor) heads tried × (all ≡ tried ++ floors_own floor held)

-- ---- inside

-- the first of them isn't tried before the head
abbrev pub BeginsNotBefore : Stamp → List Stamp → Type 0
BeginsNotBefore head [] = Unit {0}
BeginsNotBefore head (t ∷ ts) = IsTriedBefore t head → ⊥

-- so many of the first are tried before the head, and the next one isn't
pub record IsBehind (tried : List Stamp) (head : Stamp) (place : ℕ) : Type 0 where
  pub within : place ≤ length tried
  pub before : AllByRecursion (λ t. IsTriedBefore t head) (take place tried)
  pub behind : BeginsNotBefore head (drop place tried)

-- the head is one of them
pub record HasOneMore (old : List Stamp) (head : Stamp) (new : List Stamp) : Type 0 where
  pub each : (t : Stamp) → Contains new t ↔ (Contains old t ⊎ (t ≡ head))
  pub order : InTryingOrder new
