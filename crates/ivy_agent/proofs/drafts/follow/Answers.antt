use Rattle.std.proofs.Common.{Option, ◌≤◌, subst}
use Rattle.std.specs.Prelude.{IfSome}
use Rattle.log_model.specs.Spelling.{most_records}
use Rattle.ivy_agent.specs.declared.written.Before.{Before}
use Rattle.ivy_agent.proofs.drafts.follow.Goals as goal

pub sign-requires-clause-some : goal.sign-requires-clause-some
sign-requires-clause-some g c = subst (λ (o : Option Before). IfSome o (λ b. 1 ≤ b.seq)) c.in-Some.is c.requires.some

pub sign-requires-clause-few : goal.sign-requires-clause-few
sign-requires-clause-few g c = subst (λ (o : Option Before). IfSome o (λ b. b.seq ≤ most_records)) c.in-Some.is c.requires.few

pub returns-in-Ok-clause-signed : goal.returns-in-Ok-clause-signed
returns-in-Ok-clause-signed g c = rw c.in-Some.is c.in-Ok.ensures
