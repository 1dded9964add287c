-- What a turn goes on from, as it is kept.
use Rattle.std.specs.Prelude.{◌≡◌, ◌&&◌, [], Option, Some, None, is_some, if◌then◌else◌}
use Rattle.ivy_base.specs.declared.key.Key.{Key}
use Rattle.log_model.specs.Vector.{Vector}
use Rattle.turn_model.specs.Basis.{Basis}
use Rattle.version_vectors.specs.Vectors.{IsVector}
use Rattle.replay_engine.specs.Engines.{holding}
use Rattle.agent_model.specs.Standing.{dominates}
use Rattle.ivy_agent.specs.declared.grounds.Ground.{Ground}

-- the loaded basis, where a snapshot is still to be loaded and the floor knows all that the basis covers
abbrev pub taken_basis : Option Key → Vector → Option Basis → Option Basis
taken_basis to_load floor None = None
taken_basis to_load floor (Some b) = if is_some to_load && dominates floor b.front then Some b else None

-- it is that basis with nothing above it, and the front is a vector
abbrev pub IsGround : Option Basis → Option Ground → Type 0
IsGround None None = Unit {0}
IsGround None (Some g) = ⊥
IsGround (Some b) None = ⊥
IsGround (Some b) (Some g) = (holding g.engine ≡ record { basis = b; held = [] }) × (g.front ≡ b.front) × IsVector b.front
