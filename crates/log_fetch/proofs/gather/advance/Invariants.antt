use Rattle.std.proofs.Common.{length, ◌-◌}
use Rattle.log_fetch.proofs.Advancing.{GoesFrom}
use Rattle.log_fetch.proofs.gather.advance.Given as goal

-- the own log was passed, for which nothing was brought
abbrev pub invariant-members : goal.invariant-members
invariant-members l = GoesFrom l.known l.fn.passed l.passed

abbrev pub decreases-members : goal.decreases-members
decreases-members l = length l.known.view.members - l.passed.at
