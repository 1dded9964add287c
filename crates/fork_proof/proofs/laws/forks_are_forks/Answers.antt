use Rattle.fork_proof.proofs.Forks.{forks_are_forks}
use Rattle.fork_proof.proofs.Accepted.{shown_is_not_refused}
use Rattle.fork_proof.proofs.OneProof.{proofs_are_unambiguous}
use Rattle.fork_proof.proofs.laws.forks_are_forks.Goals as goal

pub returns-clause-forks : goal.returns-clause-forks
returns-clause-forks c = forks_are_forks

pub returns-clause-one : goal.returns-clause-one
returns-clause-one c = proofs_are_unambiguous

pub returns-clause-accepted : goal.returns-clause-accepted
returns-clause-accepted c = shown_is_not_refused
