use Rattle.std.proofs.Common.{rules}
use Rattle.world_model.specs.Rounds.{Forgets}
use Rattle.ring_nodes.proofs.Parts.{done_all, done_next, done_none}
use Rattle.ring_nodes.proofs.forgetting.forget_silent.Goals as goal

pub peers-init : goal.peers-init
peers-init g c = done_none (Forgets (g.J.Judge.judges c.args.judge.now)) c.args.nodes.now

pub peers-preserved : goal.peers-preserved
peers-preserved g c =
    done_next (Forgets (g.J.Judge.judges c.args.judge.now)) c.args.nodes.now c.peers.nodes c.forget.new.nodes c.args.live.now c.peers.peer-index _ c.peers.invariant c.in_ok-forget.ensures.forgets c.forget.ensures.made (search rules)

pub returns-clause-forgets : goal.returns-clause-forgets
returns-clause-forgets g c = done_all (Forgets (g.J.Judge.judges c.args.judge.now)) c.args.nodes.now c.peers.nodes c.args.live.now c.peers.peer-index c.peers.invariant (search rules)
