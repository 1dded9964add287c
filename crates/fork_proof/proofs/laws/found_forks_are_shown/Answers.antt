use Rattle.fork_proof.proofs.FoundProofs.{found_is_shown, found_is_not_refused}
use Rattle.fork_proof.proofs.FirstFound.{found_is_first}
use Rattle.fork_proof.proofs.OneFinding.{found_is_unique}
use Rattle.fork_proof.proofs.laws.found_forks_are_shown.Goals as goal

pub returns-clause-one : goal.returns-clause-one
returns-clause-one c = found_is_unique

pub returns-clause-shown : goal.returns-clause-shown
returns-clause-shown c = found_is_shown

pub returns-clause-first : goal.returns-clause-first
returns-clause-first c = found_is_first

pub returns-clause-accepted : goal.returns-clause-accepted
returns-clause-accepted c = found_is_not_refused
