-- Lines after which sessions may be gone, in worlds in which the invariant holds.
use Rattle.script_driver.specs.declared.machine.Taken.{Taken}
use Rattle.script_driver.specs.Run.{Outcome}
use Rattle.world_model.specs.Logs.{Played}
use Rattle.world_laws.specs.Invariant.{Invariant}
use Rattle.script_world.specs.PartsState.{HasParts, IsTaken, PartsState}

-- the line does so in each such world that has these parts
abbrev pub EndsSessionsWell : (Played → Outcome Played → Type 0) → PartsState → Taken → PartsState → Type 0
EndsSessionsWell Does before how after =
    (w : Played) → HasParts w.0 before → Invariant w → IsTaken (λ next. HasParts next.0 after) (Does w) how
