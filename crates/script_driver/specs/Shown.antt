-- What a machine did, of what it may stand for.
use Rattle.std.specs.Prelude.{◌≡◌}
use Rattle.script_driver.specs.Run.{Outcome, Goes, Ends, Refuses, Exceeds}

-- the outcome of a machine is such an outcome, and where it goes on it stands for what that goes on to
abbrev pub IsSeenAs : {State AbstractState : Type 0} → (State → AbstractState → Type 0) → Outcome State → Outcome AbstractState → Type 0
IsSeenAs Represents (Goes state text) (Goes whole words) = Represents state whole × (text ≡ words)
IsSeenAs Represents Ends Ends = Unit {0}
IsSeenAs Represents Refuses Refuses = Unit {0}
IsSeenAs Represents Exceeds Exceeds = Unit {0}
IsSeenAs Represents _ _ = ⊥
