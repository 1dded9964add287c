use Rattle.std.proofs.Common.{take}
use Rattle.std.specs.List.{All}
use Rattle.agent_model.specs.SavedBytes.{AreOpaque}
use Rattle.ivy_agent.proofs.posting.are_counted.Given as goal

abbrev pub invariant-posts : goal.invariant-posts
invariant-posts l = All (λ p. AreOpaque p.bytes) (take l.post-index l.posts)
