use Rattle.ivy_cli.proofs.WordLemmas.{service_levels}
use Rattle.ivy_cli.proofs.words.service.Goals as goal

pub returns-in-Some-3-clause-fits : goal.returns-in-Some-3-clause-fits
returns-in-Some-3-clause-fits c = service_levels _ _ _ _ _ c.in_ok-command.ensures c.in-Some-2.is c.in_ok-participant.ensures c.in-Some-3.is
