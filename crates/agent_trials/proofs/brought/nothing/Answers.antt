use Rattle.std.proofs.Common.{ap}
use Rattle.agent_trials.proofs.Given.{none_fetched}
use Rattle.agent_trials.proofs.brought.nothing.Goals as goal

pub returns-clause-fetched : goal.returns-clause-fetched
returns-clause-fetched c = λ view. none_fetched view c.in-Ok.batch (ap (λ b. b.chains) c.in-Ok.ensures)
