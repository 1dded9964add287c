use Rattle.session_laws.proofs.Refreshed.{refreshed_is_brought, floor_is_reached, done_is_not_behind}
use Rattle.session_laws.proofs.refreshed_is_brought.Goals as goal

pub returns-clause-brought : goal.returns-clause-brought
returns-clause-brought c = refreshed_is_brought

pub returns-clause-floor : goal.returns-clause-floor
returns-clause-floor c = floor_is_reached

pub returns-clause-caught_up : goal.returns-clause-caught_up
returns-clause-caught_up c = done_is_not_behind
