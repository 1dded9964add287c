use Rattle.conflict_list.specs.Tables.{AreFound, Stays}
use Rattle.conflict_list.proofs.Finding.{Under}
use Rattle.conflict_list.proofs.table.Table.add_number.Given as goal

abbrev pub invariant-logs : goal.invariant-logs
invariant-logs l = record {
  so_far : AreFound l.records l.i (Under l.self.marks.items l.number l.i l.lane) l.found.items;
  kept : Stays l.initial.found.items l.found.items;
}
