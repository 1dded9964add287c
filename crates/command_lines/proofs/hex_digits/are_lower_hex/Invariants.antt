use Rattle.std.proofs.Common.{◌≡◌, true, take}
use Rattle.std.specs.List.{list_all}
use Rattle.script_model.specs.Words.{is_lower_hex}
use Rattle.command_lines.proofs.hex_digits.are_lower_hex.Given as goal

abbrev pub invariant-loop-byte : goal.invariant-loop-byte
invariant-loop-byte l = list_all is_lower_hex (take l.byte-index l.word) ≡ true
