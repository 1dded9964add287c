use Rattle.std.specs.Ordering.{is_lt}
use Rattle.ivy_base.specs.Naming.{key_cmp}
use Rattle.ivy_agent.proofs.Placed.{SoFar}
use Rattle.ivy_agent.proofs.standing.place_of.Given as goal

abbrev pub invariant-edges : goal.invariant-edges
invariant-edges l = SoFar (λ e. is_lt (key_cmp l.log e.log)) l.edges l.place
