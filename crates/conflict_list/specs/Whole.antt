-- The whole table of some records.
use Rattle.std.specs.Prelude.{◌≡◌, ◌<◌, ◌^◌, true, List, length}
use Rattle.std.specs.List.Sorted.{IsNonDecreasingBy}
use Rattle.log_records.specs.declared.record.Record as kept
use Rattle.conflict_list.specs.declared.table.Table.{Table}
use Rattle.conflict_list.specs.Order.{order}
use Rattle.conflict_list.specs.Tables.{AreLogs, AreMarked, Grow}

pub record IsTable (rs : List kept.Record) (t : Table) : Type 0 where
  pub few : length rs < 2 ^ 32
  pub logs : AreLogs rs (length rs) t.logs.list.items t.logs.of.items
  pub grow : t.grow ≡ true → Grow rs t.logs.of.items (length rs)
  pub marked : AreMarked rs t.logs.of.items (length rs) t.marks.items
  pub ascending : IsNonDecreasingBy order t.marks.items
