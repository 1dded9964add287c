use Rattle.session_steps.proofs.Calls.{configurations_go_on, steps_are_of_one_call}
use Rattle.session_steps.proofs.laws.configurations_go_on.Goals as goal

pub returns : goal.returns
returns g c = record { call = steps_are_of_one_call; configuration = configurations_go_on }
