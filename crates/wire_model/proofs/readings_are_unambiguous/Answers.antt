use Rattle.wire_model.proofs.OneReading.{numbers_are_unambiguous, items_are_unambiguous, calls_are_unambiguous, one_caller}
use Rattle.wire_model.proofs.readings_are_unambiguous.Goals as goal

pub returns-clause-numbers : goal.returns-clause-numbers
returns-clause-numbers c = numbers_are_unambiguous

pub returns-clause-items : goal.returns-clause-items
returns-clause-items c = items_are_unambiguous

pub returns-clause-calls : goal.returns-clause-calls
returns-clause-calls c = calls_are_unambiguous

pub returns-clause-callers : goal.returns-clause-callers
returns-clause-callers c = one_caller
