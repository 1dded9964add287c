use Rattle.std.proofs.Common.{◌<◌, Contains, take}
use Rattle.conflict_list.specs.Tables.{AreFound}
use Rattle.conflict_list.proofs.table.Table.add_all.Given as goal

abbrev pub invariant-numbers : goal.invariant-numbers
invariant-numbers l = AreFound l.records l.i (λ m. Contains l.self.marks.items m × Contains (take l.number-index l.numbers) m.number × (l.i < m.place)) l.found.items
