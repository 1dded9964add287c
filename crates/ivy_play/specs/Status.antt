-- The status of a run.
use Rattle.std.specs.Prelude.{ℕ}
use Rattle.script_driver.specs.Run.{Ending, Ended, RefusedAt, LimitAt}

abbrev pub status_of : Ending → ℕ
status_of Ended = 0
status_of (RefusedAt number) = 3
status_of (LimitAt number) = 7
