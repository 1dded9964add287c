use Rattle.session_laws.proofs.OneRefresh.{fetch_is_deterministic, refresh_is_deterministic}
use Rattle.session_laws.proofs.refreshes_are_deterministic.Goals as goal

pub returns-clause-refresh : goal.returns-clause-refresh
returns-clause-refresh c = refresh_is_deterministic

pub returns-clause-fetch : goal.returns-clause-fetch
returns-clause-fetch c = fetch_is_deterministic
