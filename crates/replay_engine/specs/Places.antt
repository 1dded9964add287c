-- Where new records go among held ones.
use Rattle.std.specs.Prelude.{ℕ, ◌-◌, ◌%◌, ◌==◌, not, IsTrue, List, [], ◌∷◌, length, if◌then◌else◌}
use Rattle.std.specs.List.{AllByRecursion}
use Rattle.std.specs.Ordering.{is_lt, is_eq}
use Rattle.log_model.specs.Record.{Record}
use Rattle.log_model.specs.Rank.{rank, record_cmp}
use Rattle.log_records.specs.Places.{merge_place}

-- the place of the first new record, after all where there is none
abbrev pub first_place : List Record → List Record → ℕ
first_place held [] = length held
first_place held (r ∷ more) = merge_place held (rank r)

-- no held record has the rank of a new one
abbrev pub AreNew : List Record → List Record → Type 0
AreNew held more = AllByRecursion (λ r. AllByRecursion (λ q. IsTrue (not (is_eq (record_cmp r q)))) held) more

-- each new record is after each held one
abbrev pub AreBehind : List Record → List Record → Type 0
AreBehind held more = AllByRecursion (λ r. AllByRecursion (λ q. IsTrue (is_lt (record_cmp q r))) held) more

-- where a replay begins that puts records in at the place: there, where it is the end, and else at the last multiple of 64 at or before it
abbrev pub start_of : ℕ → ℕ → ℕ
start_of held place = if place == held then place else place - place % 64
