use Rattle.ivy_cli.proofs.ForkLaws.{digits_are_read}
use Rattle.ivy_cli.proofs.laws.written_digits_are_read.Goals as goal

pub returns : goal.returns
returns c = digits_are_read
