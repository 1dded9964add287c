use Rattle.session_laws.proofs.AskedGets.{gets_are_deterministic}
use Rattle.session_laws.proofs.AskedPuts.{puts_are_deterministic}
use Rattle.session_laws.proofs.gets_are_deterministic.Goals as goal

pub returns-clause-gets : goal.returns-clause-gets
returns-clause-gets c = gets_are_deterministic

pub returns-clause-puts : goal.returns-clause-puts
returns-clause-puts c = puts_are_deterministic
