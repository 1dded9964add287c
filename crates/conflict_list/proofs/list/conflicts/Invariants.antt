use Rattle.std.proofs.Common.{◌≤◌, length}
use Rattle.log_model.specs.Conflicts.{most_clashes}
use Rattle.conflict_list.specs.Conflicts.{seen_all}
use Rattle.conflict_list.proofs.Rows.{AreRowsSoFar}
use Rattle.conflict_list.proofs.list.conflicts.Given as goal

abbrev pub invariant-records : goal.invariant-records
invariant-records l = record {
  so_far : AreRowsSoFar l.records l.i (seen_all l.list.items);
  few : length l.list.items ≤ most_clashes;
}
