use Rattle.std.proofs.Common.{◌≡◌, take, fold}
use Rattle.conflict_list.specs.Numbers.{stirred}
use Rattle.conflict_list.proofs.numbers.stirred_all.Given as goal

abbrev pub invariant-bytes : goal.invariant-bytes
invariant-bytes l = l.state ≡ fold stirred l.initial.state (take l.byte-index l.bytes)
