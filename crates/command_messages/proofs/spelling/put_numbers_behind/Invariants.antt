use Rattle.std.proofs.Common.{◌≡◌, ◌++◌, ◌+◌, ◌-◌}
use Rattle.std.specs.List.{flat_map}
use Rattle.wire_model.specs.Xdr.{word}
use Rattle.script_model.specs.Messages.{numbers_behind}
use Rattle.command_messages.proofs.spelling.put_numbers_behind.Given as goal

abbrev pub invariant-loop-place : goal.invariant-loop-place
invariant-loop-place l =
    l.fn.out.items ++ flat_map word (numbers_behind l.number l.count)
    ≡ l.out.items ++ flat_map word (numbers_behind (l.number + l.place) (l.count - l.place))
