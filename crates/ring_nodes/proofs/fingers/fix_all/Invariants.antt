use Rattle.ring_nodes.proofs.Fixing.{HasFixed}
use Rattle.ring_nodes.proofs.fingers.fix_all.Given as goal

-- the fingers so far
abbrev pub invariant-fingers : goal.invariant-fingers
invariant-fingers g l = HasFixed (g.J.Judge.judges l.judge) l.peer l.fn.nodes l.nodes l.index
