-- Where a record goes among others.
use Rattle.std.specs.Prelude.{ℕ, List, count_by}
use Rattle.std.specs.Ordering.{is_lt}
use Rattle.log_model.specs.Record.{Record}
use Rattle.log_model.specs.Rank.{Rank, rank, rank_cmp}

-- how many of the records are of a smaller rank
abbrev pub merge_place : List Record → Rank → ℕ
merge_place held first = count_by (λ r. is_lt (rank_cmp (rank r) first)) held
