-- What the line of a participant that enters a view comes to.
use Rattle.std.specs.Prelude.{ℕ, List, [], codes}
use Rattle.script_driver.specs.Run.{Outcome, Goes, Refuses}
use Rattle.script_participants.specs.declared.end.EnterEnd.{EnterEnd}
use Rattle.script_participants.specs.declared.end.EnterEnd.TheVariants as end
use Rattle.world_model.specs.Logs.{failed_text}

-- by how entering ended, and the world after it: where the keeper failed, that is shown
abbrev pub use_outcome : {W : Type 0} → List ℕ → EnterEnd → W → Outcome W
use_outcome log end.Entered next = Goes next []
use_outcome log end.Refused next = Refuses
use_outcome log end.Failed next = Goes next (failed_text (codes "use") log)
