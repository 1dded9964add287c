use Rattle.session_steps.proofs.Asked.{asked_are_made}
use Rattle.session_steps.proofs.AskSteps.{next_asked_are_made}
use Rattle.session_steps.proofs.laws.asked_nodes_are_made.Goals as goal

pub returns : goal.returns
returns g c = record { session = asked_are_made; next = next_asked_are_made }
