use Rattle.std.proofs.Common.{rules}
use Rattle.command_lines.proofs.FillLemmas.{zeros_before}
use Rattle.command_lines.proofs.hex_digits.filled.Goals as goal

pub returns : goal.returns
returns g c = rw (zeros_before g.row.DIGITS c.args.word.now c.copy_from_slice.new.self (search rules) c.copy_from_slice.ensures.after) (search rules)
