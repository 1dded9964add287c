use Rattle.calm_laws.proofs.Durable.{acked_has_copies, acknowledged_is_readable}
use Rattle.calm_laws.proofs.acknowledged_is_readable.Goals as goal

pub returns-clause-readable : goal.returns-clause-readable
returns-clause-readable c = acknowledged_is_readable

pub returns-clause-copies : goal.returns-clause-copies
returns-clause-copies c = acked_has_copies
