use Rattle.std.proofs.Common.{◌∙◌}
use Rattle.fork_proof.proofs.Claims.{signed_front}
use Rattle.fork_proof.proofs.claim.Claim.read.Goals as goal

pub returns-clause-signed : goal.returns-clause-signed
returns-clause-signed c = c.signed_part.ensures ∙ signed_front c.args.bytes.now _ _ _ c.in_ok-head.ensures.some
