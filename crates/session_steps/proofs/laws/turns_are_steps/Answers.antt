use Rattle.session_steps.proofs.TurnSteps.{turns_are_steps}
use Rattle.session_steps.proofs.laws.turns_are_steps.Goals as goal

pub returns : goal.returns
returns g c = turns_are_steps
