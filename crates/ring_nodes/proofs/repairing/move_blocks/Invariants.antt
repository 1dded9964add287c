use Rattle.std.proofs.Common.{take}
use Rattle.world_model.specs.Rounds.{Repairs}
use Rattle.ring_nodes.proofs.Parts.{HasDone}
use Rattle.ring_nodes.proofs.repairing.move_blocks.Given as goal

-- the peers so far
abbrev pub invariant-peers : goal.invariant-peers
invariant-peers g l = HasDone (Repairs (g.J.Judge.judges l.judge) l.replicas) l.fn.nodes l.nodes (take l.peer-index l.live)
