use Rattle.std.proofs.Common.{rules}
use Rattle.world_model.specs.Rounds.{Stabilises}
use Rattle.ring_nodes.proofs.Parts.{done_all, done_next, done_none}
use Rattle.ring_nodes.proofs.stabilising.pass.Goals as goal

pub peers-init : goal.peers-init
peers-init g c = done_none (λ v p. Stabilises (g.J.Judge.judges c.args.judge.now) p v) c.args.nodes.now

pub peers-preserved : goal.peers-preserved
peers-preserved g c =
    done_next (λ v p. Stabilises (g.J.Judge.judges c.args.judge.now) p v) c.args.nodes.now c.peers.nodes c.stabilise.new.nodes c.args.live.now c.peers.peer-index _ c.peers.invariant c.in_ok-stabilise.ensures.stabilises c.stabilise.ensures.made (search rules)

pub returns-clause-passes : goal.returns-clause-passes
returns-clause-passes g c = done_all (λ v p. Stabilises (g.J.Judge.judges c.args.judge.now) p v) c.args.nodes.now c.peers.nodes c.args.live.now c.peers.peer-index c.peers.invariant (search rules)
