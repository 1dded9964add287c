use Rattle.std.proofs.Common.{rules}
use Rattle.world_model.specs.Rounds.{FixesFrom}
use Rattle.ring_nodes.proofs.Parts.{done_all, done_next, done_none}
use Rattle.ring_nodes.proofs.fingers.fix_fingers.Goals as goal

pub peers-init : goal.peers-init
peers-init g c = done_none (λ v p. FixesFrom (g.J.Judge.judges c.args.judge.now) p 0 160 v) c.args.nodes.now

pub peers-preserved : goal.peers-preserved
peers-preserved g c =
    done_next (λ v p. FixesFrom (g.J.Judge.judges c.args.judge.now) p 0 160 v) c.args.nodes.now c.peers.nodes c.fix_all.new.nodes c.args.live.now c.peers.peer-index _ c.peers.invariant c.in_ok-fix_all.ensures.fixes c.fix_all.ensures.made (search rules)

pub returns-clause-fixes : goal.returns-clause-fixes
returns-clause-fixes g c = done_all (λ v p. FixesFrom (g.J.Judge.judges c.args.judge.now) p 0 160 v) c.args.nodes.now c.peers.nodes c.args.live.now c.peers.peer-index c.peers.invariant (search rules)
