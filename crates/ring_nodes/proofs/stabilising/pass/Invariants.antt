use Rattle.std.proofs.Common.{take}
use Rattle.world_model.specs.Rounds.{Stabilises}
use Rattle.ring_nodes.proofs.Parts.{HasDone}
use Rattle.ring_nodes.proofs.stabilising.pass.Given as goal

-- the peers so far
abbrev pub invariant-peers : goal.invariant-peers
invariant-peers g l = HasDone (λ v p. Stabilises (g.J.Judge.judges l.judge) p v) l.fn.nodes l.nodes (take l.peer-index l.live)
