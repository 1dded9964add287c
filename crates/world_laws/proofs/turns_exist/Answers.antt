use Rattle.world_laws.proofs.FullEnds.{sessions_end_or_clash, sessions_go_to_their_ends}
use Rattle.world_laws.proofs.TurnsExisting.{turns_exist}
use Rattle.world_laws.proofs.turns_exist.Goals as goal

pub returns-clause-turns : goal.returns-clause-turns
returns-clause-turns c = turns_exist

pub returns-clause-sessions : goal.returns-clause-sessions
returns-clause-sessions c = sessions_go_to_their_ends

pub returns-clause-ends : goal.returns-clause-ends
returns-clause-ends c = sessions_end_or_clash
