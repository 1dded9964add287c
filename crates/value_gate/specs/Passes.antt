-- A gate and a pass as contracts see them.
use Rattle.std.specs.Prelude.{◌≡◌, ◌⊎◌, ℕ, ◌+◌, ◌<◌, false, List, [], ◌∷◌, ◌++◌, length}
use Rattle.std.specs.Prelude.{Option, Some, IfSome, All}
use mathlib.Core.List.{IsPrefix}
use Rattle.atomic_table.specs.Seated.{TableId}
use Rattle.value_gate.specs.declared.history.Entry.{Entry}
use Rattle.value_gate.specs.declared.knows.Gone.{Gone}
use Rattle.value_gate.specs.declared.knows.Knows.{Knows}
use Rattle.value_gate.specs.Histories.{entry, calls_by, HaveTheSame, IsLegal}
use Rattle.value_gate.specs.Rules.{calls_of_gone}
use Rattle.value_gate.specs.Steps.{Sat, Sees}

-- which gate it is, and the value that it was opened with
pub record GateView (A : Type 0) : Type 0 where
  pub gate : TableId
  pub opening : A

-- a pass: its gate and the value that this was opened with, its number and parts, the history that it has seen, and its own calls
pub record PassView (A T : Type 0) : Type 0 where
  pub gate : TableId
  pub opening : Option A
  pub number : ℕ
  pub parts : ℕ
  pub history : List (Entry T)
  pub calls : List (Entry T)

-- the pass that is gone is one of these
abbrev pub IsAmong : {T : Type 0} → Gone T → List (Gone T) → Type 0
IsAmong {T} g gs = (before : List (Gone T)) × (after : List (Gone T)) × (gs ≡ before ++ g ∷ after)

module _ {A T : Type 0} where
  -- what contracts see of what a pass knows
  abbrev pub pass_view : TableId → Knows A T → PassView A T
  pass_view gate v = record { gate = gate; opening = v.opening; number = v.number; parts = v.parts; history = v.seen; calls = v.calls }

  -- the pass is one of this gate
  abbrev pub IsPassOf : GateView A → PassView A T → Type 0
  IsPassOf g p = (p.gate ≡ g.gate) × (p.opening ≡ Some g.opening)

  -- the pass with another history and other calls
  abbrev pub with_history : PassView A T → List (Entry T) → List (Entry T) → PassView A T
  with_history p history calls = record p { history = history; calls = calls }

  -- the pass with so many parts
  abbrev pub with_parts : PassView A T → ℕ → PassView A T
  with_parts p parts = record p { parts = parts }

  -- the history begins with the one that the pass had, and ends with this call, which is the one more that the pass made
  abbrev pub TookTurn : PassView A T → T → PassView A T → Type 0
  TookTurn p turn q = let e = entry p.number (length p.calls + 1) turn in
      (before : List (Entry T)) × IsPrefix p.history before × (q ≡ with_history p (before ++ e ∷ []) (p.calls ++ e ∷ []))

  -- the pass has seen at least what it had seen, and made no call
  abbrev pub SawOn : PassView A T → PassView A T → Type 0
  SawOn p q = IsPrefix p.history q.history × (q ≡ with_history p q.history p.calls)

  -- both passes have the longer of their two histories, which begins with the other, and nothing else changed
  pub record Met (p q p' q' : PassView A T) : Type 0 where
    pub longer_one : (p'.history ≡ p.history) ⊎ (p'.history ≡ q.history)
    pub same : q'.history ≡ p'.history
    pub begins : IsPrefix p.history p'.history × IsPrefix q.history p'.history
    pub first : p' ≡ with_history p p'.history p.calls
    pub second : q' ≡ with_history q q'.history q.calls

  -- the parts of all passes
  abbrev pub parts_of : List (PassView A T) → ℕ
  parts_of [] = 0
  parts_of (p ∷ ps) = p.parts + parts_of ps

  -- the calls of all passes
  abbrev pub calls_of : List (PassView A T) → List (Entry T)
  calls_of [] = []
  calls_of (p ∷ ps) = p.calls ++ calls_of ps

-- what a pass knows once others were joined to the first: all that each had seen, the calls of each, and the parts of all
pub record HasGathered {A T : Type 0}
    (opening : A) (first : PassView A T) (others : List (PassView A T)) (v : Knows A T) : Type 0 where
  pub outside : v.inside ≡ false
  pub owner : v.opening ≡ Some opening
  pub itself : (v.number ≡ first.number) × (v.calls ≡ first.calls) × IsPrefix first.history v.seen
  pub parts : v.parts ≡ first.parts + parts_of others
  pub gone : HaveTheSame (calls_of_gone v.gone) (calls_of others)
  pub each : All (λ p. IsPrefix p.history v.seen × IsAmong (record { number = p.number; calls = p.calls }) v.gone) others

-- what a pass has seen is legal, and of its own calls it has all and each once
abbrev pub IsOwnHistory : {A T : Type 0} → (A → List (Entry T) → A → Type 0) → PassView A T → Type 0
IsOwnHistory stands p = IfSome p.opening (λ o. IsLegal stands o p.history × (calls_by p.number p.history ≡ p.calls))

-- the value that was found stood for the history, and this is so of it
abbrev pub Found : {A T : Type 0} → (A → List (Entry T) → A → Type 0) → A → List (Entry T) → (A → Type 0) → Type 0
Found {A} stands opening history Is = (found : A) × stands opening history found × Is found

-- the value that was found and the one that was left both stood for the history, and this is so of the two
abbrev pub FoundAndLeft : {A T : Type 0} → (A → List (Entry T) → A → Type 0) → A → List (Entry T) → (A → A → Type 0) → Type 0
FoundAndLeft {A} stands opening history Are =
    Found stands opening history (λ found. (left : A) × stands opening history left × Are found left)

-- what is true of a pass between two calls, which keeps the number of turns that it has seen and its parts
pub record IsPass {A T : Type 0}
    (stands : A → List (Entry T) → A → Type 0) (turns parts : ℕ) (me : Sat A T) : Type 0 where
  pub outside : me.0.inside ≡ false
  pub empty : me.1 ≡ []
  pub turns_are : turns ≡ length me.0.seen
  pub parts_are : parts ≡ me.0.parts
  pub part : 0 < me.0.parts
  pub sees : Sees stands me.0
  pub none_gone : me.0.gone ≡ []

-- The value stands for the whole history, which is legal and has so many turns. It begins with what each of the passes had seen, has
-- the calls of each and no others of its number, and has no entries but these calls.
pub record IsWhole {A T : Type 0}
    (stands : A → List (Entry T) → A → Type 0) (opening : A) (passes : List (PassView A T)) (value : A) (turns : ℕ) : Type 0 where
  pub history : List (Entry T)
  pub value_stands : stands opening history value
  pub legal : IsLegal stands opening history
  pub count : turns ≡ length history
  pub begins : All (λ p. IsPrefix p.history history × (calls_by p.number history ≡ p.calls)) passes
  pub no_others : HaveTheSame history (calls_of passes)
