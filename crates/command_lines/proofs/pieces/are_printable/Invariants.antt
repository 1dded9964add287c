use Rattle.std.proofs.Common.{◌≡◌, true, take}
use Rattle.std.specs.List.{list_all}
use Rattle.script_model.specs.Words.{is_printable}
use Rattle.command_lines.proofs.pieces.are_printable.Given as goal

abbrev pub invariant-loop-byte : goal.invariant-loop-byte
invariant-loop-byte l = list_all is_printable (take l.byte-index l.text) ≡ true
