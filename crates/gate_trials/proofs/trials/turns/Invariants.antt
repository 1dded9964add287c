use Rattle.std.proofs.Common.{◌≡◌, ◌+◌, ◌≤◌, length}
use Rattle.value_gate.specs.Passes.{IsPassOf}
use Rattle.gate_trials.proofs.trials.turns.Given as goal

-- the pass is of the gate, and has made as many calls more as were taken
abbrev pub invariant-loop : goal.invariant-loop
invariant-loop g l = IsPassOf l.fn.gate l.pass × (l.pass.parts ≡ l.fn.pass.parts) × (length l.pass.calls ≡ length l.fn.pass.calls + l.taken) × (l.taken ≤ l.counter)
