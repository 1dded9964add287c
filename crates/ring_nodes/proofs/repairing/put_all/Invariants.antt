use Rattle.dhash_repair.specs.Repairing.{repair_left}
use Rattle.ring_nodes.proofs.Repaired.{IsRepairing}
use Rattle.ring_nodes.proofs.repairing.put_all.Given as goal

-- the asks so far
abbrev pub invariant-asks : goal.invariant-asks
invariant-asks g l = IsRepairing (g.J.Judge.judges l.judge) l.fn.nodes l.peer l.replicas l.fn.held l.nodes l.repair

abbrev pub decreases-asks : goal.decreases-asks
decreases-asks g l = repair_left l.repair
