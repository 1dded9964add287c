-- The rule of the gate: one word, one slot, and what each pass knows.
use Rattle.std.specs.Prelude.{◌≡◌, ◌⊎◌, ℕ, ◌+◌, ◌*◌, ◌<◌, ◌≤◌, true, false, List, [], ◌∷◌, ◌++◌, length}
use Rattle.std.specs.Prelude.{Option, Some, None}
use mathlib.Core.Option.{some, none}
use mathlib.Core.List.{IsPrefix}
use lib.ListN.{get_elem?}
use Rattle.atomic_table.specs.Table.{State}
use Rattle.value_gate.specs.declared.history.Entry.{Entry}
use Rattle.value_gate.specs.declared.knows.Gone.{Gone}
use Rattle.value_gate.specs.declared.knows.Knows.{Knows}
use Rattle.value_gate.specs.Histories.{calls_by, HaveTheSame, IsLegal}

-- all the parts that there are, which is 2^32
abbrev pub all_parts : ℕ
all_parts = 4294967296

-- the most turns that a gate's history can have, which is 2^63 - 1
abbrev pub most_turns : ℕ
most_turns = 9223372036854775807

-- the calls of passes that are gone
abbrev pub calls_of_gone : {T : Type 0} → List (Gone T) → List (Entry T)
calls_of_gone [] = []
calls_of_gone (g ∷ gs) = g.calls ++ calls_of_gone gs

module _ {A T : Type 0} where
  -- the parts of all views
  abbrev pub total : List (Knows A T) → ℕ
  total [] = 0
  total (v ∷ vs) = v.parts + total vs

  -- the calls that all views tell of: each pass's own, and those of the passes that are gone
  abbrev pub all_calls : List (Knows A T) → List (Entry T)
  all_calls [] = []
  all_calls (v ∷ vs) = v.calls ++ (calls_of_gone v.gone ++ all_calls vs)

  -- How the view at a place fits the history. What it has seen is a beginning of the history. What it had seen at its last join, and
  -- what it met there, are beginnings of what it has seen. A pass's number is its place, its calls are all that the history has of
  -- it, and it has seen them all. A note has no calls, and a view with no part tells of none.
  pub record Fits (opening : A) (history : List (Entry T)) (place : ℕ) (v : Knows A T) : Type 0 where
    pub seen : IsPrefix v.seen history
    pub own : IsPrefix v.own v.seen
    pub met : IsPrefix v.met v.seen
    pub owner : (o : A) → v.opening ≡ Some o → (o ≡ opening) × (v.number ≡ place)
    pub calls : (o : A) → v.opening ≡ Some o → (calls_by place v.seen ≡ v.calls) × (calls_by place history ≡ v.calls)
    pub note : v.opening ≡ None → v.calls ≡ []
    pub idle : v.parts ≡ 0 → (v.calls ≡ []) × (calls_of_gone v.gone ≡ [])

  -- a pass that was joined to another, whose place has a note, and whose calls are all that the history has of it
  abbrev pub IsGone : List (Knows A T) → List (Entry T) → Gone T → Type 0
  IsGone views history g =
      (calls_by g.number history ≡ g.calls) × (v : Knows A T) × (get_elem? views g.number ≡ some v) × (v.opening ≡ None)

  -- each of these passes was joined to another
  abbrev pub AreGone : List (Knows A T) → List (Entry T) → List (Gone T) → Type 0
  AreGone views history [] = Unit {0}
  AreGone views history (g ∷ gs) = IsGone views history g × AreGone views history gs

module _ {A T : Type 0} (stands : A → List (Entry T) → A → Type 0) (opening : A)
    (s : State (Option A) (Knows A T)) (history : List (Entry T)) where
  -- the slot is full, nobody is inside, and the value in the slot stands for the history
  pub record IsFull : Type 0 where
    pub value : A
    pub slot : s.homes ≡ some (Some value) ∷ []
    pub word : s.words ≡ (2 * length history) ∷ []
    pub nobody : (place : ℕ) (v : Knows A T) → get_elem? s.views place ≡ some v → v.inside ≡ false
    pub value_stands : stands opening history value

  -- The slot is empty. Exactly one pass is inside, which has seen the whole history and has a part, and there is room for one entry
  -- more.
  pub record IsEmpty : Type 0 where
    pub slot : s.homes ≡ none ∷ []
    pub word : s.words ≡ (2 * length history + 1) ∷ []
    pub room : length history < most_turns
    pub place : ℕ
    pub view : Knows A T
    pub there : get_elem? s.views place ≡ some view
    pub is_inside : view.inside ≡ true
    pub has_seen : view.seen ≡ history
    pub has_part : 0 < view.parts
    pub alone : (other : ℕ) (v : Knows A T) → get_elem? s.views other ≡ some v → v.inside ≡ true → other ≡ place

-- There is one history, which is legal and the longest that any view has seen. Its length is half the word, rounded down. It has the
-- calls that all views tell of and no others, and a number that was not yet made has no entry. All views together have the 2^32 parts.
pub record IsGate {A T : Type 0}
    (stands : A → List (Entry T) → A → Type 0) (opening : A) (s : State (Option A) (Knows A T)) : Type 0 where
  pub history : List (Entry T)
  pub slot : IsFull stands opening s history ⊎ IsEmpty stands opening s history
  pub legal : IsLegal stands opening history
  pub each : (place : ℕ) (v : Knows A T) → get_elem? s.views place ≡ some v → Fits opening history place v
  pub gone : (place : ℕ) (v : Knows A T) → get_elem? s.views place ≡ some v → AreGone s.views history v.gone
  pub longest : (place : ℕ) × (v : Knows A T) × (get_elem? s.views place ≡ some v) × (v.seen ≡ history)
  pub no_others : HaveTheSame history (all_calls s.views)
  pub unmade : (place : ℕ) → length s.views ≤ place → calls_by place history ≡ []
  pub whole : total s.views ≡ all_parts
