use Rattle.std.proofs.Common.{arith}
use Rattle.ivy_cli.specs.ProofLines.{most_read}
use Rattle.ivy_cli.proofs.ForkLemmas.{takes_more}
use Rattle.ivy_cli.proofs.proof_line.read_input.Goals as goal

pub returns-in_err-fill-clause-takes : goal.returns-in_err-fill-clause-takes
returns-in_err-fill-clause-takes g c = takes_more most_read _ c.input.input.items _ _ _ (omega (arith, c.input.input.ok.0)) c.input.invariant.few c.input.invariant.taken c.fill.ensures.takes
