use Rattle.session_steps.proofs.AskSteps.{asks_are_steps}
use Rattle.session_steps.proofs.laws.asks_are_steps.Goals as goal

pub returns : goal.returns
returns g c = asks_are_steps
