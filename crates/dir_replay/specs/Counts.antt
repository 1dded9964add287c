-- Counts that grow or shrink by one where something holds.
use Rattle.std.specs.Prelude.{ℕ, ◌+◌, ◌-◌, Bool, if◌then◌else◌}

abbrev pub less_one_if : ℕ → Bool → ℕ
less_one_if count less = if less then count - 1 else count

abbrev pub one_more_if : ℕ → Bool → ℕ
one_more_if count more = if more then count + 1 else count
