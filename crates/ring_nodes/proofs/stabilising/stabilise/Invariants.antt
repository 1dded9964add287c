use Rattle.ring_nodes.proofs.Renewing.{IsStabilising, list_left}
use Rattle.ring_nodes.proofs.stabilising.stabilise.Given as goal

-- what is still to be done is all that was to be done
abbrev pub invariant-silent : goal.invariant-silent
invariant-silent g l = IsStabilising (g.J.Judge.judges l.judge) l.peer l.fn.nodes l.nodes

abbrev pub decreases-silent : goal.decreases-silent
decreases-silent g l = list_left l.nodes l.peer.id
