-- What an engine holds after any list of calls.
use Rattle.std.specs.Prelude.{◌≡◌, ◌≢◌, ◌↔◌, List, [], ◌∷◌, ◌++◌, Contains}
use Rattle.std.specs.List.{AllByRecursion}
use Rattle.log_model.specs.View.{View}
use Rattle.log_model.specs.Record.{Record}
use Rattle.log_model.specs.Replay.{replay}
use Rattle.replay_engine.specs.Rows.{IsRow}
use Rattle.turn_model.specs.Basis.{Basis, StandsFor, IsAboveTide, kept_tree}
use Rattle.replay_engine.specs.Places.{AreNew, AreBehind}
use Rattle.replay_engine.specs.Engines.{Engine, holding, taken_in, undone}

-- a call that takes new records in, wherever they go; one that takes them in after all others; and one that takes the last of these back
pub data Call : Type 0 where
  Absorb : List Record → Call
  Append : List Record → Call
  Undo : Call

abbrev pub after : Engine → Call → Engine
after e (Absorb more) = taken_in e more
after e (Append more) = taken_in e more
after e Undo = undone e

abbrev pub after_all : Engine → List Call → Engine
after_all e [] = e
after_all e (c ∷ cs) = after_all (after e c) cs

-- the call may be made
abbrev pub MayBe : Engine → Call → Type 0
MayBe e (Absorb more) = IsRow more × AreNew e.held more × AllByRecursion (IsAboveTide e.basis) more
MayBe e (Append more) = IsRow more × AreBehind e.held more × AllByRecursion (IsAboveTide e.basis) more
MayBe e Undo = e.before ≢ []

abbrev pub AllMayBe : Engine → List Call → Type 0
AllMayBe e [] = Unit {0}
AllMayBe e (c ∷ cs) = MayBe e c × AllMayBe (after e c) cs

abbrev pub without_first : List (List Record) → List (List Record)
without_first [] = []
without_first (t ∷ ts) = ts

-- what each call took in that stands, the newest first
abbrev pub standing : List (List Record) → List Call → List (List Record)
standing taken [] = taken
standing taken (Absorb more ∷ cs) = standing (more ∷ taken) cs
standing taken (Append more ∷ cs) = standing (more ∷ taken) cs
standing taken (Undo ∷ cs) = standing (without_first taken) cs

abbrev pub all_of : List (List Record) → List Record
all_of [] = []
all_of (t ∷ ts) = t ++ all_of ts

abbrev pub opened : Basis → Engine
opened b = record { basis = b; held = []; before = [] }

-- what an engine of that basis holds, of what was taken in
pub record Holds (b : Basis) (taken : List (List Record)) (held : List Record) : Type 0 where
  pub row : IsRow held
  pub these : (r : Record) → Contains held r ↔ Contains (all_of taken) r
  pub above : AllByRecursion (IsAboveTide b) held

-- Over a basis that stands for a set, whatever the calls: the engine holds the records of the calls that stand, in order, and
-- its tree is the replay of the set and these.
abbrev pub ReplayIsIncremental : Type 0
ReplayIsIncremental = (view : View) (b : Basis) (s : List Record) (calls : List Call) → StandsFor view b s → AllMayBe (opened b) calls
    → Holds b (standing [] calls) (after_all (opened b) calls).held
    × (kept_tree (holding (after_all (opened b) calls)) ≡ replay (s ++ (after_all (opened b) calls).held))
