use Rattle.world_laws.proofs.Frames.{frame_rule}
use Rattle.world_laws.proofs.frame_rule.Goals as goal

pub returns : goal.returns
returns c = frame_rule
