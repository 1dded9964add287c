use Rattle.conflict_list.specs.Tables.{AreLogs}
use Rattle.conflict_list.proofs.logs.logs_of.Given as goal

abbrev pub invariant-records : goal.invariant-records
invariant-records l = AreLogs l.records l.one-index l.list.items l.of.items
