-- Histories of turns, the oldest entry first.
use Rattle.std.specs.Prelude.{◌≡◌, ℕ, ◌+◌, List, [], ◌∷◌, ◌++◌, length, sum_by, if◌then◌else◌, nat_lt, ◌==◌}
use mathlib.Core.List.{IsPrefix}
use Rattle.value_gate.specs.declared.history.Entry.{Entry}

module _ {T : Type 0} where
  -- a turn as an entry, with the pass's number and the number of the call
  abbrev pub entry : ℕ → ℕ → T → Entry T
  entry pass call turn = record { pass = pass; call = call; turn = turn }

  -- the calls of one pass, in their order
  abbrev pub calls_by : ℕ → List (Entry T) → List (Entry T)
  calls_by pass [] = []
  calls_by pass (e ∷ es) = if pass == e.pass then e ∷ calls_by pass es else calls_by pass es

  -- calls are numbered on from n, without a gap
  abbrev pub AreNumbered : ℕ → List (Entry T) → Type 0
  AreNumbered n [] = Unit {0}
  AreNumbered n (e ∷ es) = (e.call ≡ n + 1) × AreNumbered (n + 1) es

  -- the longer of two histories
  abbrev pub longer : List (Entry T) → List (Entry T) → List (Entry T)
  longer xs ys = if nat_lt (length xs) (length ys) then ys else xs

  -- the same entries, each as often: however entries are weighed, the one list weighs what the other does
  abbrev pub HaveTheSame : List (Entry T) → List (Entry T) → Type 0
  HaveTheSame xs ys = (weight : Entry T → ℕ) → sum_by weight xs ≡ sum_by weight ys

-- A legal history: the calls of each pass are numbered from 1, and some value stands for each beginning of the history
pub record IsLegal {A T : Type 0} (stands : A → List (Entry T) → A → Type 0) (opening : A) (history : List (Entry T)) : Type 0 where
  pub numbered : (pass : ℕ) → AreNumbered 0 (calls_by pass history)
  pub reached : (before : List (Entry T)) → IsPrefix before history → (value : A) × stands opening before value

module _ {A Q R : Type 0} (stands : A → List (Entry (Q × R)) → A → Type 0) where
  -- the value came from some opening value of which this may be asked
  abbrev pub CanTake : (A → Q → Type 0) → A → Q → Type 0
  CanTake may_ask value asked =
      (opening : A) × (history : List (Entry (Q × R))) × stands opening history value × may_ask opening asked

  -- the value came from some opening value that may be visited
  abbrev pub CanVisit : (A → Type 0) → A → Type 0
  CanVisit may_visit value = (opening : A) × (history : List (Entry (Q × R))) × stands opening history value × may_visit opening

  -- whatever the value stood for, it now stands for that and one entry more, whoever took the turn
  abbrev pub GoesOn : A → A → Q × R → Type 0
  GoesOn old new turn = (opening : A) (history : List (Entry (Q × R))) (pass call : ℕ)
      → stands opening history old → stands opening (history ++ entry pass call turn ∷ []) new

  -- whatever the value stood for, it still does
  abbrev pub Stays : A → A → Type 0
  Stays old new = (opening : A) (history : List (Entry (Q × R))) → stands opening history old → stands opening history new
