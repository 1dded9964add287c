use Rattle.world_laws.proofs.Bringing.{refresh_brings, refresh_may_turn}
use Rattle.world_laws.proofs.done_refreshes_bring.Goals as goal

pub returns-clause-brings : goal.returns-clause-brings
returns-clause-brings c = refresh_brings

pub returns-clause-may_turn : goal.returns-clause-may_turn
returns-clause-may_turn c = refresh_may_turn
