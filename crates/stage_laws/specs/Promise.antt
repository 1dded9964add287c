-- What is promised of each line of a script.
use Rattle.std.specs.Prelude.{◌≡◌, ℕ, List, ◌<◌, length}
use Rattle.script_driver.specs.Run.{Outcome, Goes, WithLaw, line_limit}
use Rattle.world_model.specs.Logs.{Played}
use Rattle.world_model.specs.Step.{IvyStep}
use Rattle.world_laws.specs.Headline.{Headline}
use Rattle.calm_laws.specs.CalmLines.{IsServedWhereCalm}
use Rattle.stage_laws.specs.Given.{RefreshesAreComplete}
use Rattle.stage_laws.specs.Outputs.{StatusesAreTold}
use Rattle.stage_laws.specs.Stage.{KeepsAll}
use Rattle.stage_laws.specs.Stands.{Stands}

-- The headline: each turn's reply is the file system's answer on the replay of one causally closed set of verified records.
-- Each other reply has its cause.
-- Service in calm scripts. If the world was reached calmly, every block whose put was acknowledged is stored and can be read.
-- No whole call fails because a block is missing, and a round moves each block to its owners.
-- If the world was reached tidily too, the turn of a whole call takes all that the members have written, and nothing else.
-- The statuses JUKEBOX, IO, ROFS and SERVERFAULT in what the line shows come from their causes alone.
-- If each head and record that a call's refresh needs was given right, the call has its turn.
-- What stands in the world before the line and in the world after it: the ring of a calm script, the heads that left, one truth.
pub record Promise (w : Played) (line : List ℕ) (outcome : Outcome Played) : Type 0 where
  pub headline : Headline w line outcome
  pub calm : IsServedWhereCalm w line outcome
  pub statuses : StatusesAreTold w line outcome
  pub complete : RefreshesAreComplete w line outcome
  pub before : Stands w
  pub after : (next : Played) (output : List ℕ) → outcome ≡ Goes next output → Stands next

-- The step of a line, with the promise.
abbrev pub PromisedStep : Played → List ℕ → Outcome Played → Type 0
PromisedStep = WithLaw IvyStep Promise

-- The promise holds of each line in a world that satisfies the invariant.
abbrev pub LinesPromise : Type 0
LinesPromise = (w : Played) (line : List ℕ) (outcome : Outcome Played) → KeepsAll w → IvyStep w line outcome → Promise w line outcome

-- So the step with its promise preserves the invariant,
abbrev pub PromisedKeeps : Type 0
PromisedKeeps = (w next : Played) (line output : List ℕ) → KeepsAll w → PromisedStep w line (Goes next output) → KeepsAll next

-- it is total (each line has an outcome),
abbrev pub PromisedIsTotal : Type 0
PromisedIsTotal = (w : Played) (line : List ℕ) → KeepsAll w → (outcome : Outcome Played) × PromisedStep w line outcome

-- and a line that is too long doesn't go on.
abbrev pub PromisedLongLinesStop : Type 0
PromisedLongLinesStop = (w : Played) (line : List ℕ) (next : Played) (output : List ℕ) → KeepsAll w → line_limit < length line
    → PromisedStep w line (Goes next output) → ⊥
