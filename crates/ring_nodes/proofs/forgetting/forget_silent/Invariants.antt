use Rattle.std.proofs.Common.{take}
use Rattle.world_model.specs.Rounds.{Forgets}
use Rattle.ring_nodes.proofs.Parts.{HasDone}
use Rattle.ring_nodes.proofs.forgetting.forget_silent.Given as goal

-- the peers so far
abbrev pub invariant-peers : goal.invariant-peers
invariant-peers g l = HasDone (Forgets (g.J.Judge.judges l.judge)) l.fn.nodes l.nodes (take l.peer-index l.live)
