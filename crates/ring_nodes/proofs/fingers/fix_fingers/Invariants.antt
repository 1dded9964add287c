use Rattle.std.proofs.Common.{take}
use Rattle.world_model.specs.Rounds.{FixesFrom}
use Rattle.ring_nodes.proofs.Parts.{HasDone}
use Rattle.ring_nodes.proofs.fingers.fix_fingers.Given as goal

-- the peers so far
abbrev pub invariant-peers : goal.invariant-peers
invariant-peers g l = HasDone (λ v p. FixesFrom (g.J.Judge.judges l.judge) p 0 160 v) l.fn.nodes l.nodes (take l.peer-index l.live)
