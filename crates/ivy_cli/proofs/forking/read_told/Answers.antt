use Rattle.ivy_cli.proofs.ForkLemmas.{all_read}
use Rattle.ivy_cli.proofs.forking.read_told.Goals as goal

pub returns-clause-ok : goal.returns-clause-ok
returns-clause-ok g c = all_read c.in_ok-input.input.items _ _ _ c.in_ok-input.ensures.ok (rw c.as_slice.ensures.value at c.in_ok-told_of.ensures)
