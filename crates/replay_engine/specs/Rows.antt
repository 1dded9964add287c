-- Rows of records that ascend, and the union of two of them, from its end.
use Rattle.std.specs.Prelude.{◌≡◌, ◌-◌, List, [], ◌∷◌, ◌++◌, length, Option, Some, None, slice_get, fold}
use Rattle.std.specs.List.{AllByRecursion}
use Rattle.std.specs.declared.cmp.Ordering.{Ordering}
use Rattle.std.specs.declared.cmp.Ordering.TheVariants.{Less, Greater}
use Rattle.log_model.specs.Record.{Record}
use Rattle.log_model.specs.Rank.{record_cmp}
use Rattle.log_model.specs.Spelling.{HasSpelling}
use Rattle.log_model.specs.Closed.{IsAscending}
use Rattle.log_model.specs.Replay.{with_record}

-- what is held in one row
pub record IsRow (s : List Record) : Type 0 where
  pub ascending : IsAscending s
  pub spelled : AllByRecursion HasSpelling s

-- the held records with the new ones taken in
abbrev pub union : List Record → List Record → List Record
union held new = fold with_record held new

-- the union has that record after the union of what is left
abbrev pub TakesGreatest : List Record → List Record → List Record → List Record → Record → Type 0
TakesGreatest held new held_left new_left r = union held new ≡ union held_left new_left ++ r ∷ []

abbrev pub last_of : List Record → Option Record
last_of s = slice_get s (length s - 1)

-- a row without records is before one with some, and after one without
abbrev pub order_of : Option Record → Option Record → Ordering
order_of (Some x) (Some y) = record_cmp x y
order_of None (Some y) = Less
order_of x None = Greater

abbrev pub last_order : List Record → List Record → Ordering
last_order held new = order_of (last_of held) (last_of new)
