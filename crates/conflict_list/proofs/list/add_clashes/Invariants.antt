use Rattle.std.proofs.Common.{◌+◌, ◌≤◌, length}
use Rattle.log_model.specs.Conflicts.{most_clashes}
use Rattle.conflict_list.specs.Conflicts.{seen_all}
use Rattle.conflict_list.proofs.Rows.{IsRowSoFar, Passed}
use Rattle.conflict_list.proofs.list.add_clashes.Given as goal

abbrev pub invariant-found : goal.invariant-found
invariant-found l = record {
  low : l.i + 1 ≤ l.next;
  high : l.next ≤ length l.records;
  passed : Passed (length l.records) l.found l.place-index l.next;
  so_far : IsRowSoFar l.records l.i l.next (seen_all l.list.items) (seen_all l.initial.list.items);
  few : length l.list.items ≤ most_clashes;
}
