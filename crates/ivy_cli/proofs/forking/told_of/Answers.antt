use Rattle.ivy_cli.proofs.ForkLemmas.{judged}
use Rattle.ivy_cli.proofs.forking.told_of.Goals as goal

pub returns-in_ok-shown_by-in-Some : goal.returns-in_ok-shown_by-in-Some
returns-in_ok-shown_by-in-Some c = judged c.args.input.now c.as_slice.result.now _ _ _ c.in_ok-bytes.ensures c.in-Some.is c.as_slice.ensures c.in_ok-shown_by-in-Some.ensures
