-- The list with one pair more, or with a row: the pairs of a record with those after it.
use Rattle.std.specs.Prelude.{◌≡◌, ℕ, ◌+◌, List, ◌++◌, drop}
use Rattle.std.specs.List.{flat_map}
use Rattle.log_records.specs.declared.record.Record as kept
use Rattle.log_records.specs.Records.{record_of, records_of}
use Rattle.conflict_list.specs.declared.list.ListFault.{ListFault}
use Rattle.log_model.specs.Conflicts.{Clash, clash_with}
use Rattle.conflict_list.specs.Conflicts.{IsTooMany}
use Rattle.conflict_list.specs.Tables.{At}

abbrev pub IsWithPair : List kept.Record → ℕ → ℕ → List Clash → List Clash → Type 0
IsWithPair rs i j list more = (r s : kept.Record) → At rs i r → At rs j s
    → more ≡ list ++ clash_with (record_of r) (record_of s)

abbrev pub HasNoPair : List kept.Record → ℕ → ℕ → List Clash → ListFault → Type 0
HasNoPair rs i j list fault = (r s : kept.Record) → At rs i r → At rs j s
    → IsTooMany (list ++ clash_with (record_of r) (record_of s)) fault

abbrev pub row : List kept.Record → ℕ → kept.Record → List Clash
row rs i r = flat_map (clash_with (record_of r)) (records_of (drop (i + 1) rs))

abbrev pub IsWithRow : List kept.Record → ℕ → List Clash → List Clash → Type 0
IsWithRow rs i list more = (r : kept.Record) → At rs i r → more ≡ list ++ row rs i r

abbrev pub HasNoRow : List kept.Record → ℕ → List Clash → ListFault → Type 0
HasNoRow rs i list fault = (r : kept.Record) → At rs i r → IsTooMany (list ++ row rs i r) fault
