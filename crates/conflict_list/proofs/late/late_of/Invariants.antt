use Rattle.std.proofs.Common.{◌≡◌, length}
use Rattle.conflict_list.specs.Tables.{AreLate, AreNewest}
use Rattle.conflict_list.proofs.late.late_of.Given as goal

abbrev pub invariant-records : goal.invariant-records
invariant-records l = record {
  late : AreLate l.records l.place l.late.items;
  long : length l.late.items ≡ l.place;
  newest : AreNewest l.records l.logs.of.items l.place l.newest.items;
  lanes : length l.newest.items ≡ length l.logs.list.items;
}
