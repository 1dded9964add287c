use Rattle.world_laws.proofs.Alike.{alike_turns}
use Rattle.world_laws.proofs.alike_turns_answer_alike.Goals as goal

pub returns : goal.returns
returns c = alike_turns
