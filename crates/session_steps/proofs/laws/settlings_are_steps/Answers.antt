use Rattle.session_steps.proofs.EndSteps.{settlings_are_steps}
use Rattle.session_steps.proofs.laws.settlings_are_steps.Goals as goal

pub returns : goal.returns
returns g c = settlings_are_steps
