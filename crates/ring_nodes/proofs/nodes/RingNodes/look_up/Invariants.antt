use Rattle.dhash_client.specs.Machine.{looks_left}
use Rattle.ring_nodes.proofs.Looking.{IsLooking}
use Rattle.ring_nodes.proofs.nodes.RingNodes.look_up.Given as goal

-- the asks so far
abbrev pub invariant-asks : goal.invariant-asks
invariant-asks g l = IsLooking (g.J.Judge.judges l.judge) l.fn.self l.key l.through l.self l.lookup

abbrev pub decreases-asks : goal.decreases-asks
decreases-asks g l = looks_left l.lookup
