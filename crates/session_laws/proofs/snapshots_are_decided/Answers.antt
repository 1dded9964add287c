use Rattle.session_laws.proofs.DecidedSnapshots as law
use Rattle.session_laws.proofs.snapshots_are_decided.Goals as goal

pub returns : goal.returns
returns c = law.snapshots_are_decided
