-- What `play` says of its script.
use Rattle.std.specs.Prelude.{◌≡◌, ◌⊎◌, ℕ, ◌^◌, List, take, Option}
use Rattle.ivy_io.specs.Known.{then}
use Rattle.script_driver.specs.Lines.{lines_of}
use Rattle.script_driver.specs.Run.{Ran}
use Rattle.script_driver.specs.Told.{run_of}
use Rattle.world_model.specs.Logs.{Played}
use Rattle.world_model.specs.GhostState.{empty_ghost_state}
use Rattle.world_model.specs.World.{empty_world}
use Rattle.world_laws.specs.FullRuns.{ClashesOn, IsFullRun}
use Rattle.stage_laws.specs.FullRuns.{HasMemoryAlong, LacksOrClashes, RunComesTo}
use Rattle.stage_laws.specs.Promise.{PromisedStep}
use Rattle.ivy_play.specs.Status.{status_of}

-- a script begins in the empty world, of which nothing is reported
abbrev pub initial_world : Played
initial_world = (empty_world, empty_ghost_state)

-- the lines of a script: those of its first 2^40 bytes
abbrev pub script_lines : List ℕ → List (List ℕ)
script_lines script = lines_of (take (2 ^ 40) script)

-- the runs of what a source has left, by the step with its promise
abbrev pub ivy_runs : Option (List ℕ) → Ran → Type 0
ivy_runs left = run_of PromisedStep initial_world left

-- there is one run of the script in which memory is always there, or names clash on the way
abbrev pub RunsFully : List ℕ → Type 0
RunsFully script = ((ran : Ran) × IsFullRun initial_world 1 (script_lines script) ran) ⊎ ClashesOn initial_world (script_lines script)

-- memory was always there in the run, which so is that one; or it comes to a line where memory ran out for a call, or names clash
abbrev pub IsFullOrTells : List ℕ → Ran → Type 0
IsFullOrTells script ran = HasMemoryAlong initial_world 1 (script_lines script) ran
    ⊎ RunComesTo LacksOrClashes initial_world 1 (script_lines script) ran

-- The status and what was written are those of such a run; or the player ran out of memory.
abbrev pub IsPlayed : List ℕ → ℕ → Option (List ℕ) → Option (List ℕ) → Type 0
IsPlayed script status held holds =
    ((ran : Ran) × IsFullOrTells script ran × (status ≡ status_of ran.ending) × (holds ≡ then held ran.text)) ⊎ (status ≡ 6)
