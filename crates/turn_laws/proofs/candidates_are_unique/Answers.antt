use Rattle.turn_laws.proofs.OneCandidate.{candidates_are_unique}
use Rattle.turn_laws.proofs.candidates_are_unique.Goals as goal

pub returns : goal.returns
returns c = candidates_are_unique
