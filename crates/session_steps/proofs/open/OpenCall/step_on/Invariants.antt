use Rattle.std.proofs.Common.{◌≡◌, ◌+◌, ℕ}
use Rattle.session_steps.specs.Representing.{shown}
use Rattle.session_steps.specs.Within.{Reaches}
use Rattle.session_steps.proofs.open.OpenCall.step_on.Given as goal

abbrev pub invariant-steps : goal.invariant-steps
invariant-steps g l = (left : ℕ) → left + l.counter ≡ l.count
    → Reaches left l.count (shown l.initial.self l.initial.nodes l.initial.who l.initial.met l.now) (shown l.self l.nodes l.who l.met l.now)
