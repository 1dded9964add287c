use Rattle.std.proofs.Common.{rules, sym, ◌∙◌, arith}
use Rattle.command_lines.proofs.DigitLemmas.{read_over}
use Rattle.command_lines.proofs.numbers.value_of_digits.Goals as goal

pub returns-in_err-checked_mul : goal.returns-in_err-checked_mul
returns-in_err-checked_mul c =
    rw c.from_residual.ensures (sym (read_over c.loop-digit.value c.loop-digit.digit-index c.args.digits.now c.loop-digit-test.true (search rules) (omega (arith, c.in_err-checked_mul.ensures))) ∙ c.loop-digit.invariant.read)

pub returns-in_err-value : goal.returns-in_err-value
returns-in_err-value c =
    rw c.from_residual-in_err-value.ensures (sym (read_over c.loop-digit.value c.loop-digit.digit-index c.args.digits.now c.loop-digit-test.true (search rules) (search rules)) ∙ c.loop-digit.invariant.read)
