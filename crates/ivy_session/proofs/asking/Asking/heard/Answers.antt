use Rattle.std.proofs.Common.{subst}
use Rattle.ivy_session.specs.Putting.{Putting, PuttingHasHeard}
use Rattle.ivy_session.proofs.asking.Asking.heard.Goals as goal

pub returns-clause-heard : goal.returns-clause-heard
returns-clause-heard c = subst (λ (s : Putting). PuttingHasHeard s c.heard.new.self c.args.answer) c.self.view_is c.in_ok-heard.ensures.heard
