use Rattle.std.proofs.Common.{Contains, take}
use Rattle.conflict_list.specs.Tables.{AreFound, Stays}
use Rattle.conflict_list.proofs.table.Table.add_run.Given as goal

abbrev pub invariant-run : goal.invariant-run
invariant-run l = record {
  so_far : AreFound l.records l.i (Contains (take l.mark-index l.run)) l.found.items;
  kept : Stays l.initial.found.items l.found.items;
}
