use Rattle.std.proofs.Common.{◌≡◌, ◌++◌, take, map}
use Rattle.conflict_list.specs.Order.{marked}
use Rattle.conflict_list.proofs.marked.mark.Given as goal

abbrev pub invariant-numbers : goal.invariant-numbers
invariant-numbers l = l.list.items ≡ l.initial.list.items ++ map (marked l.log l.place) (take l.number-index l.numbers)
