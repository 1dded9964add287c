use Rattle.session_laws.proofs.Starting.{start_is_known, start_is_sorted}
use Rattle.session_laws.proofs.start_is_known.Goals as goal

pub returns-clause-known : goal.returns-clause-known
returns-clause-known c = start_is_known

pub returns-clause-sorted : goal.returns-clause-sorted
returns-clause-sorted c = start_is_sorted
