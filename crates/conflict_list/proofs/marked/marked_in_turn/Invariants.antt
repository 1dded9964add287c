use Rattle.conflict_list.specs.Tables.{AreMarked}
use Rattle.conflict_list.proofs.marked.marked_in_turn.Given as goal

abbrev pub invariant-records : goal.invariant-records
invariant-records l = AreMarked l.records l.of l.place l.list.items
