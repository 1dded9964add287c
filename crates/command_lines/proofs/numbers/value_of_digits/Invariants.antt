use Rattle.std.proofs.Common.{◌≡◌, ◌<◌, ◌^◌, drop}
use Rattle.command_lines.proofs.DigitLemmas.{read_after}
use Rattle.command_lines.proofs.numbers.value_of_digits.Given as goal

abbrev pub invariant-loop-digit : goal.invariant-loop-digit
invariant-loop-digit l = record {
  read : read_after l.value (drop l.digit-index l.digits) ≡ read_after 0 l.digits;
  fits : l.value < 2 ^ 64;
}
