use Rattle.value_gate.specs.Passes.{IsPassOf}
use Rattle.agent_trials.proofs.agents.turns.Given as goal

-- the pass is of the gate
abbrev pub invariant-loop-turn : goal.invariant-loop-turn
invariant-loop-turn g l = IsPassOf l.fn.gate l.pass
