use Rattle.session_laws.proofs.AllLogs.{fetched_is_brought, floor_is_brought}
use Rattle.session_laws.proofs.fetched_is_brought.Goals as goal

pub returns-clause-brought : goal.returns-clause-brought
returns-clause-brought c = fetched_is_brought

pub returns-clause-floor : goal.returns-clause-floor
returns-clause-floor c = floor_is_brought
