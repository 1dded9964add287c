use Rattle.std.proofs.Common.{refl}
use Rattle.ivy_io.proofs.memory.MemSinkSink.write.Goals as goal

pub returns-then-next_fails-clause-planned : goal.returns-then-next_fails-clause-planned
returns-then-next_fails-clause-planned c = (λ _. rw (← c.self.view_is) (c.next_fails.ensures.fails.0 c.if-next_fails.true), λ _. refl)
