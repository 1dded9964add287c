use Rattle.conflict_list.specs.Tables.{Grow}
use Rattle.conflict_list.proofs.logs.all_go_on.Given as goal

abbrev pub invariant-records : goal.invariant-records
invariant-records l = Grow l.records l.of l.j
