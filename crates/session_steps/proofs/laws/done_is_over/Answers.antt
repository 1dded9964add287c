use Rattle.session_steps.proofs.EndSteps.{done_is_over}
use Rattle.session_steps.proofs.laws.done_is_over.Goals as goal

pub returns : goal.returns
returns g c = done_is_over
