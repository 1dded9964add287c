use Rattle.session_laws.proofs.Going.{refresh_begins, refresh_goes_on}
use Rattle.session_laws.proofs.Missing.{fails_by_the_last}
use Rattle.session_laws.proofs.refreshes_go_on.Goals as goal

pub returns-clause-begins : goal.returns-clause-begins
returns-clause-begins c = refresh_begins

pub returns-clause-goes_on : goal.returns-clause-goes_on
returns-clause-goes_on c = refresh_goes_on

pub returns-clause-fails : goal.returns-clause-fails
returns-clause-fails c = fails_by_the_last
