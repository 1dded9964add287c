use Rattle.std.proofs.Common.{rules}
use Rattle.world_model.specs.Rounds.{Repairs}
use Rattle.ring_nodes.proofs.Parts.{done_all, done_next, done_none}
use Rattle.ring_nodes.proofs.repairing.move_blocks.Goals as goal

pub peers-init : goal.peers-init
peers-init g c = done_none (Repairs (g.J.Judge.judges c.args.judge.now) c.args.replicas) c.args.nodes.now

pub peers-preserved : goal.peers-preserved
peers-preserved g c =
    done_next (Repairs (g.J.Judge.judges c.args.judge.now) c.args.replicas) c.args.nodes.now c.peers.nodes c.repair.new.nodes c.args.live.now c.peers.peer-index _ c.peers.invariant c.in_ok-repair.ensures.repairs c.repair.ensures.made (search rules)

pub returns-clause-repairs : goal.returns-clause-repairs
returns-clause-repairs g c = done_all (Repairs (g.J.Judge.judges c.args.judge.now) c.args.replicas) c.args.nodes.now c.peers.nodes c.args.live.now c.peers.peer-index c.peers.invariant (search rules)
