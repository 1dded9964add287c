use Rattle.world_model.specs.Rounds.{EachDoes, Stabilises}
use Rattle.ring_nodes.proofs.Parts.{HasPassed}
use Rattle.ring_nodes.proofs.stabilising.renew_lists.Given as goal

-- the passes so far
abbrev pub invariant-passes : goal.invariant-passes
invariant-passes g l = HasPassed (EachDoes (λ v p. Stabilises (g.J.Judge.judges l.judge) p v)) l.fn.nodes l.nodes l.live l.counter
