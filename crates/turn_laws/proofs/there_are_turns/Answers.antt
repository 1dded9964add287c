use Rattle.turn_laws.proofs.RecordReading.{record_or_not}
use Rattle.turn_laws.proofs.SomeCandidate.{there_are_candidates}
use Rattle.turn_laws.proofs.SomePart.{there_is_a_largest_part}
use Rattle.turn_laws.proofs.there_are_turns.Goals as goal

pub returns-clause-blocks : goal.returns-clause-blocks
returns-clause-blocks c = record_or_not

pub returns-clause-candidates : goal.returns-clause-candidates
returns-clause-candidates c = there_are_candidates

pub returns-clause-parts : goal.returns-clause-parts
returns-clause-parts c = there_is_a_largest_part
