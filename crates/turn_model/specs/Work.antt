-- How many records are applied where some are taken in among others (checkpoints are kept after each 64 records).
use Rattle.std.specs.Prelude.{ℕ, ◌+◌, ◌-◌, ◌*◌, ◌/◌, ◌==◌, List, ◌∷◌, length, if◌then◌else◌}
use Rattle.std.specs.Ordering.{is_eq}
use Rattle.log_model.specs.Record.{Record}
use Rattle.log_model.specs.Rank.{record_cmp}

-- how many records are applied: the new ones where they go last, and else all from the last multiple of 64 at or before the first place on
abbrev pub applied_for : ℕ → ℕ → ℕ → ℕ
applied_for held more place = if place == held then more else held + more - 64 * (place / 64)

-- with how many records of equal rank both lists begin
abbrev pub shared_front : List Record → List Record → ℕ
shared_front (q ∷ held) (r ∷ all) = if is_eq (record_cmp q r) then shared_front held all + 1 else 0
shared_front _ _ = 0

-- how many are applied where these were held, and then those are: the first new one is the first that wasn't held
abbrev pub applied_between : List Record → List Record → ℕ
applied_between held all = applied_for (length held) (length all - length held) (shared_front held all)
