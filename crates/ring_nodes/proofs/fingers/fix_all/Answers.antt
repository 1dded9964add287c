use Rattle.ring_nodes.proofs.Fixing.{fixed_more, fixed_none}
use Rattle.ring_nodes.proofs.fingers.fix_all.Goals as goal

pub fingers-init : goal.fingers-init
fingers-init g c = fixed_none (g.J.Judge.judges c.args.judge.now) c.args.peer.now c.args.nodes.now

pub fingers-preserved : goal.fingers-preserved
fingers-preserved g c = fixed_more (g.J.Judge.judges c.args.judge.now) c.args.peer.now c.args.nodes.now c.fingers.nodes c.fix.new.nodes c.fingers.index c.fingers.invariant c.in_ok-fix.ensures.fixes c.fix.ensures.made
