-- What an agent knows and holds after a turn.
use Rattle.std.specs.Prelude.{◌≡◌, ◌⊎◌, Bool, true, false, List, ◌∷◌, ◌++◌, Contains}
use Rattle.ivy_base.specs.declared.format.Format.TheVariants.{One}
use Rattle.ivy_base.specs.declared.operation.Moment.{Moment}
use Rattle.ivy_base.specs.declared.operation.Op.{Op}
use Rattle.log_model.specs.Closed.{IsClosed}
use Rattle.log_model.specs.Rank.{front}
use Rattle.log_model.specs.Record.{Record}
use Rattle.log_model.specs.Vector.{Vector, join}
use Rattle.log_model.specs.View.{View, IsView}
use Rattle.turn_model.specs.Basis.{Holding, HoldsAll}
use Rattle.turn_model.specs.Known.{IsKnown}
use Rattle.turn_model.specs.Turn.{Asked, Inputs, Turned, appended, tries_save, turn_on}
use Rattle.agent_model.specs.Turning.{with_held}

-- A floor names a larger closed set where that set's front is joined into it.
abbrev pub JoinedFloorNames : Type 0
JoinedFloorNames = (view : View) (floor : Vector) (known set : List Record) → IsView view → IsKnown view floor known
    → ((r : Record) → Contains known r → Contains set r) → IsClosed view set → IsKnown view (join floor (front set)) set

-- Where all of a set is held, so is all of it with what a turn on it writes.
abbrev pub WrittenIsHeld : Type 0
WrittenIsHeld = (view : View) (x : Inputs) (h : Holding) (asked : Asked) (now : Moment) (set written : List Record) → HoldsAll view set h
    → set ++ written ≡ (turn_on x set asked now).set → HoldsAll view (set ++ written) (with_held h written)

-- where it tries no save failed before, and records are appended; where it doesn't the set stays
abbrev pub IsToSave : Inputs → List Record → Moment → Bool → Turned → Type 0
IsToSave x s now tries t =
    ((tries ≡ true) × (x.has_failed ≡ false) × (o : Op) × (ops : List Op) × (t.set ≡ appended x.own One now s (o ∷ ops)))
    ⊎ ((tries ≡ false) × (t.set ≡ s))

-- A turn on a set tries to save exactly where it writes records.
abbrev pub SavesWhatItWrites : Type 0
SavesWhatItWrites = (x : Inputs) (s : List Record) (asked : Asked) (now : Moment)
    → IsToSave x s now (tries_save x s asked now) (turn_on x s asked now)
