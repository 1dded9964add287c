use Rattle.std.proofs.Common.{get_or}
use Rattle.conflict_list.proofs.Finding.{all_numbers, no_number, number_more}
use Rattle.conflict_list.proofs.Places.{at_read}
use Rattle.conflict_list.proofs.table.Table.add_all.Goals as goal

pub numbers-init : goal.numbers-init
numbers-init c = no_number c.args.records.now c.args.i c.args.self.now.marks.items c.args.numbers.now c.args.found.now.items

pub numbers-preserved : goal.numbers-preserved
numbers-preserved c = number_more c.args.records.now c.args.i c.args.self.now.marks.items c.args.numbers.now c.numbers.number-index (get_or c.args.numbers.now c.numbers.number-index 0) c.numbers.found.items c.add_number.new.found.items
    (at_read c.args.numbers.now c.numbers.number-index 0 c.numbers-test.true) c.numbers.invariant c.in_ok-add_number.ensures.found c.in_ok-add_number.ensures.kept

pub returns : goal.returns
returns c = all_numbers c.args.records.now c.args.i c.args.self.now.marks.items c.args.numbers.now c.numbers.number-index c.numbers.found.items c.numbers-test.false c.numbers.invariant
