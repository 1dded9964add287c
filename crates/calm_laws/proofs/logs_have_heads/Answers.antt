use Rattle.calm_laws.proofs.LogHeads.{logs_have_heads}
use Rattle.calm_laws.proofs.logs_have_heads.Goals as goal

pub returns : goal.returns
returns c = logs_have_heads
