use Rattle.std.proofs.Common.{length}
use Rattle.hss_keys.proofs.spelling.+push_signed.Given as goal

abbrev pub decreases-push_signed : goal.decreases-push_signed
decreases-push_signed l = length l.sets.now
