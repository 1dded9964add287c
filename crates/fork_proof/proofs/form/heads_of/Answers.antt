use Rattle.std.proofs.Common.{◌≡◌, true, false}
use Rattle.fork_proof.proofs.Reading.{no_such_heads}
use Rattle.fork_proof.proofs.form.heads_of.Goals as goal

pub returns-else-go_together-clause-none : goal.returns-else-go_together-clause-none
returns-else-go_together-clause-none c = no_such_heads c.in_ok-low.ensures.some c.in_ok-high.ensures.some (λ w. let no : false ≡ true = c.if-go_together.ensures.1 w in absurd (cc no))
