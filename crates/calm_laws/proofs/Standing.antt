-- A world of a calm script, some of whose nodes may have stopped, by what the layer below proves of it.
use Rattle.std.proofs.Common.{ℕ, List}
use Rattle.world_model.specs.Logs.{Played}
use Rattle.calm_laws.specs.Calm.{IsCalmAt, Stopped}
use Rattle.world_laws.specs.Invariant.{Invariant}
use Rattle.calm_laws.proofs.CalmHeld.{calmly_keeps}
use Rattle.world_laws.proofs.EachLine.{each_line_keeps}
use Rattle.calm_laws.proofs.Runs.{state_at}
use Rattle.calm_laws.proofs.Stretches.{Stretch}
use Rattle.calm_laws.proofs.Worlds.{IsStanding, on}

pub record IsCalmWorld (r : ℕ) (w : Played) : Type 0 where
  pub stopped : ℕ
  pub keeps : Invariant w
  pub state : IsStanding r stopped w.0 w.1

-- its ring, up to that world
abbrev pub ring_of : (r : ℕ) (w : Played) → IsCalmWorld r w → Stretch
ring_of r w world = on r world.stopped w world.state

pub calm_world : (r : ℕ) (w : Played) (count : ℕ) (lines : List (List ℕ)) → IsCalmAt r w (Stopped count) lines → IsCalmWorld r w
calm_world r w count lines calm = record { stopped = count; keeps = calmly_keeps each_line_keeps r w (Stopped count) lines calm; state = state_at r w (Stopped count) lines calm }
