use Rattle.session_steps.specs.Representing.{shown}
use Rattle.session_steps.specs.Within.{ReachesOn, left_to}
use Rattle.session_steps.proofs.open.OpenCall.run_out.Given as goal

abbrev pub invariant-steps : goal.invariant-steps
invariant-steps g l = ReachesOn (shown l.initial.self l.initial.nodes l.initial.who l.initial.met l.now) (shown l.self l.nodes l.who l.met l.now)

abbrev pub decreases-steps : goal.decreases-steps
decreases-steps g l = left_to l.self
