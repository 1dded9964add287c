use Rattle.world_laws.proofs.OneSteps.{many_steps_are_deterministic, publishing_is_deterministic, session_ends_are_deterministic, session_steps_are_deterministic}
use Rattle.world_laws.proofs.session_steps_are_deterministic.Goals as goal

pub returns-clause-step : goal.returns-clause-step
returns-clause-step c = session_steps_are_deterministic

pub returns-clause-many : goal.returns-clause-many
returns-clause-many c = many_steps_are_deterministic

pub returns-clause-all : goal.returns-clause-all
returns-clause-all c = session_ends_are_deterministic

pub returns-clause-publishing : goal.returns-clause-publishing
returns-clause-publishing c = publishing_is_deterministic
