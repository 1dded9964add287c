-- What holds of the worlds that a script comes to.
use Rattle.world_model.specs.Logs.{Played}
use Rattle.world_laws.specs.Invariant.{Invariant}
use Rattle.stage_laws.specs.Told.{IsTold}

-- a world in which the invariant holds, and what is told of its sessions and turns
abbrev pub KeepsAll : Played → Type 0
KeepsAll w = Invariant w × IsTold w
