use Rattle.log_heads.proofs.SealedHeads.{sealed_heads}
use Rattle.log_heads.proofs.sealing.sealed_heads_are_judged.Goals as goal

pub returns : goal.returns
returns c = sealed_heads
