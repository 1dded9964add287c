use Rattle.log_heads.proofs.SignedHeads.{signed_heads}
use Rattle.log_heads.proofs.laws.signed_heads_are_judged.Goals as goal

pub returns : goal.returns
returns c = signed_heads
