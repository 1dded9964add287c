-- What each step changes in the view of the pass that makes it, and what it tells the pass.
use Rattle.std.specs.Prelude.{◌≡◌, ℕ, ◌+◌, ◌-◌, ◌*◌, ◌≤◌, ◌==◌, true, false, List, [], ◌∷◌, ◌++◌, length}
use Rattle.std.specs.Prelude.{Option, Some, None, IfSome, MatchBool}
use mathlib.Core.List.{IsPrefix}
use Rattle.atomic_table.specs.Table.{Me, Step}
use Rattle.value_gate.specs.declared.history.Entry.{Entry}
use Rattle.value_gate.specs.declared.knows.Gone.{Gone}
use Rattle.value_gate.specs.declared.knows.Knows.{Knows}
use Rattle.value_gate.specs.Histories.{entry, calls_by, longer, IsLegal}
use Rattle.value_gate.specs.Rules.{all_parts}

module _ {A T : Type 0} where
  -- a pass that has just been made, with no part
  abbrev pub newcomer : Option A → ℕ → Knows A T
  newcomer opening number = record {
    opening = opening;
    number = number;
    calls = [];
    inside = false;
    parts = 0;
    seen = [];
    own = [];
    met = [];
    gone = [];
  }

  -- the first pass, with all parts
  abbrev pub first_pass : A → Knows A T
  first_pass opening = record (newcomer (Some opening) 0) { parts = all_parts }

  -- a note of so many parts and of what was seen
  abbrev pub note : ℕ → List (Entry T) → Knows A T
  note parts seen = record (newcomer None 0) { parts = parts; seen = seen }

  -- a pass from which so many parts were split
  abbrev pub less : ℕ → Knows A T → Knows A T
  less parts v = record v { parts = v.parts - parts }

  -- a pass that ends, which a note does not
  abbrev pub ended : Option A → ℕ → List (Entry T) → List (Gone T)
  ended (Some o) number calls = record { number = number; calls = calls } ∷ []
  ended None number calls = []

  -- a pass to which another, or a note, was joined
  abbrev pub joined : Knows A T → Knows A T → Knows A T
  joined v w = record v {
    inside = false;
    parts = v.parts + w.parts;
    seen = longer v.seen w.seen;
    own = v.seen;
    met = w.seen;
    gone = v.gone ++ (w.gone ++ ended w.opening w.number w.calls);
  }

  -- a pass that is inside, and has seen this history
  abbrev pub entered : Knows A T → List (Entry T) → Knows A T
  entered v history = record v { inside = true; seen = history }

  -- the pass's next call, as an entry
  abbrev pub next_call : Knows A T → T → Entry T
  next_call v turn = entry v.number (length v.calls + 1) turn

  -- a pass that left with these entries
  abbrev pub left : Knows A T → List (Entry T) → Knows A T
  left v new = record v { calls = v.calls ++ new; inside = false; seen = v.seen ++ new }

  -- a pass that went back without an entry
  abbrev pub backed : Knows A T → Knows A T
  backed v = record v { inside = false }

-- what a pass knows, and the slot with what it has there, where the pass has taken it
abbrev pub Sat : Type 0 → Type 0 → Type 0
Sat A T = Me (Option A) (Knows A T)

module _ {A T : Type 0} (stands : A → List (Entry T) → A → Type 0) where
  -- what a pass has seen is legal, and has all calls that it made and no others of its number
  abbrev pub Sees : Knows A T → Type 0
  Sees v = IfSome v.opening (λ o. IsLegal stands o v.seen × (calls_by v.number v.seen ≡ v.calls))

  -- Nothing changes. What the pass has seen is no longer than the turns read, and begins with both histories that a join brought
  -- together.
  abbrev pub Looked : Step (Option A) → Sat A T → ℕ → Sat A T → Type 0
  Looked st m found n =
      (n ≡ m) × (2 * length m.0.seen ≤ found) × IsPrefix m.0.own m.0.seen × IsPrefix m.0.met m.0.seen × Sees m.0

  -- the pass is inside, with a value that stands for the whole history, which begins with what the pass had seen
  pub record IsInside (m n : Sat A T) (turns : ℕ) : Type 0 where
    pub value : A
    pub me : n ≡ (entered m.0 n.0.seen, (0, Some value) ∷ [])
    pub older : IsPrefix m.0.seen n.0.seen
    pub count : turns ≡ 2 * length n.0.seen
    pub sees : Sees n.0
    pub value_stands : IfSome m.0.opening (λ o. stands o n.0.seen value)

  -- the pass is inside where the exchange found what it expected, and else it only looked
  abbrev pub Entered : Step (Option A) → Sat A T → ℕ → Sat A T → Type 0
  Entered st m found n = MatchBool (found == st.first) (IsInside m n found) (Looked st m found n)

  -- the pass is outside, and the history that it has seen is longer by these entries, which are its own calls
  abbrev pub Left : List (Entry T) → Step (Option A) → Sat A T → ℕ → Sat A T → Type 0
  Left new st m found n = (n ≡ (left m.0 new, [])) × Sees n.0

  -- the pass is outside, and has seen what it saw inside
  abbrev pub Backed : Step (Option A) → Sat A T → ℕ → Sat A T → Type 0
  Backed st m found n = n ≡ (backed m.0, [])

  -- a new pass, with some number and no part
  abbrev pub Made : Step (Option A) → Sat A T → ℕ → Sat A T → Type 0
  Made st m found n = (number : ℕ) × (n ≡ (newcomer m.0.opening number, []))
