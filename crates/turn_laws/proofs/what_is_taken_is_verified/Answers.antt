use Rattle.turn_laws.proofs.TakenVerified.{taken_is_verified, own_log_is_known}
use Rattle.turn_laws.proofs.Backed.{known_stays_backed}
use Rattle.turn_laws.proofs.what_is_taken_is_verified.Goals as goal

pub returns-clause-verified : goal.returns-clause-verified
returns-clause-verified c = taken_is_verified

pub returns-clause-own : goal.returns-clause-own
returns-clause-own c = own_log_is_known

pub returns-clause-backed : goal.returns-clause-backed
returns-clause-backed c = known_stays_backed
