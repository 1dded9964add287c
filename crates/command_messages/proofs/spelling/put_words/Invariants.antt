use Rattle.std.proofs.Common.{◌≡◌, ◌++◌, drop}
use Rattle.std.specs.List.{flat_map}
use Rattle.wire_model.specs.Xdr.{word}
use Rattle.command_messages.proofs.spelling.put_words.Given as goal

abbrev pub invariant-loop-number : goal.invariant-loop-number
invariant-loop-number l = l.fn.out.items ++ flat_map word l.fn.numbers ≡ l.out.items ++ flat_map word (drop l.number-index l.fn.numbers)
