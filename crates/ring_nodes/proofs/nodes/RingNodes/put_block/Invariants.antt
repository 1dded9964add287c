use Rattle.dhash_client.specs.Execution.{asks_left}
use Rattle.ring_nodes.proofs.WholePuts.{IsPutting}
use Rattle.ring_nodes.proofs.nodes.RingNodes.put_block.Given as goal

-- the asks so far
abbrev pub invariant-asks : goal.invariant-asks
invariant-asks g l = IsPutting (g.J.Judge.judges l.judge) l.fn.self l.fn.key l.fn.bytes l.replicas l.self l.put

abbrev pub decreases-asks : goal.decreases-asks
decreases-asks g l = asks_left l.put.execution
