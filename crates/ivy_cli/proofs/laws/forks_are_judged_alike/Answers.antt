use Rattle.ivy_cli.proofs.ForkLaws.{judged_alike}
use Rattle.ivy_cli.proofs.laws.forks_are_judged_alike.Goals as goal

pub returns : goal.returns
returns c = judged_alike
