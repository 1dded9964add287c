use Rattle.world_laws.proofs.AnsweredTurns.{answered_turns_keep}
use Rattle.world_laws.proofs.RefusedTurns.{refused_turns_keep}
use Rattle.world_laws.proofs.turns_keep.Goals as goal

pub returns-clause-answered : goal.returns-clause-answered
returns-clause-answered c = answered_turns_keep

pub returns-clause-refused : goal.returns-clause-refused
returns-clause-refused c = refused_turns_keep
