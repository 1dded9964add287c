use Rattle.turn_laws.proofs.Arguments.{arguments_or_not}
use Rattle.turn_laws.proofs.Callers.{caller_or_not}
use Rattle.turn_laws.proofs.Calls.{known_message}
use Rattle.turn_laws.proofs.bytes_are_known.Goals as goal

pub returns-clause-messages : goal.returns-clause-messages
returns-clause-messages c = known_message

pub returns-clause-credentials : goal.returns-clause-credentials
returns-clause-credentials c = caller_or_not

pub returns-clause-arguments : goal.returns-clause-arguments
returns-clause-arguments c = arguments_or_not
