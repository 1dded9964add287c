-- Laws of the lines and of runs. Each is stated here, and proved in this crate.
use Rattle.std.specs.Prelude.{◌<◌, ℕ, List, length}
use Rattle.script_driver.specs.Run.{Outcome, Goes, Ran, Runs, WithLaw, line_limit}
use Rattle.world_model.specs.Logs.{Played}
use Rattle.world_model.specs.Step.{IvyStep}
use Rattle.world_model.specs.GhostState.{empty_ghost_state}
use Rattle.world_model.specs.World.{empty_world}
use Rattle.world_laws.specs.Headline.{Headline}
use Rattle.stage_laws.specs.Stage.{KeepsAll}

-- ---- lines

-- a script begins in such a world, and each line leaves one
abbrev pub FirstKeepsAll : Type 0
FirstKeepsAll = KeepsAll (empty_world, empty_ghost_state)

abbrev pub LinesKeepAll : Type 0
LinesKeepAll = (w next : Played) (line output : List ℕ) → KeepsAll w → IvyStep w line (Goes next output) → KeepsAll next

-- each line has an outcome
abbrev pub LinesAreTotal : Type 0
LinesAreTotal = (w : Played) (line : List ℕ) → KeepsAll w → (outcome : Outcome Played) × IvyStep w line outcome

-- a line that is too long doesn't go on
abbrev pub LongLinesStop : Type 0
LongLinesStop = (w next : Played) (line output : List ℕ) → line_limit < length line → IvyStep w line (Goes next output) → ⊥

-- ---- runs

-- in such a world the headline holds of each line; so it holds of each line of a run
abbrev pub LinesHaveHeadline : Type 0
LinesHaveHeadline = (w : Played) (line : List ℕ) (outcome : Outcome Played) → KeepsAll w → IvyStep w line outcome → Headline w line outcome

abbrev pub RunsHaveHeadline : Type 0
RunsHaveHeadline = (w : Played) (number : ℕ) (lines : List (List ℕ)) (ran : Ran) → KeepsAll w → Runs IvyStep w number lines ran
    → Runs (WithLaw IvyStep Headline) w number lines ran
