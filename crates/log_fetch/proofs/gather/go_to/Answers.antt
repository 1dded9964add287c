use Rattle.std.proofs.Common.{List, length, ap}
use Rattle.ivy_base.specs.declared.key.PubKey.{PubKey}
use Rattle.log_fetch.proofs.Advancing.{ends_here}
use Rattle.log_fetch.proofs.gather.go_to.Goals as goal

pub returns-in-Err-clause-ends : goal.returns-in-Err-clause-ends
returns-in-Err-clause-ends c = ends_here c.args.known.now c.args.passed.now (length c.members.result.now) (ap (λ (l : List PubKey). length l) c.members.ensures.value) c.members.ensures.legal c.requires
