use Rattle.std.proofs.Common.{Err}
use Rattle.log_fetch.specs.declared.turned.Turned.{Turned}
use Rattle.ivy_agent.proofs.Committed.{unless_memory}
use Rattle.ivy_agent.proofs.writing.try_to_write.Goals as goal

pub returns-in-Err-clause-steps : goal.returns-in-Err-clause-steps
returns-in-Err-clause-steps g c = unless_memory {A = Turned} (Err c.in-Err.fault) c.in-Ok.ensures.steps
