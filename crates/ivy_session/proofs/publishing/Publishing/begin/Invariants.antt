use Rattle.std.proofs.Common.{length}
use Rattle.ivy_session.specs.Publishing.{HasBegun}
use Rattle.ivy_session.proofs.publishing.Publishing.begin.Given as goal

-- the puts that began lead here
abbrev pub invariant-posts : goal.invariant-posts
invariant-posts l = HasBegun l.initial.self l.self

abbrev pub decreases-posts : goal.decreases-posts
decreases-posts l = length l.self.left
