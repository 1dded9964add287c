use Rattle.std.proofs.Common.{subst}
use Rattle.world_model.specs.World.{World}
use Rattle.ring_nodes.specs.Joining.{Finds}
use Rattle.ring_nodes.specs.NodesState.{IsNodesOf, with_nodes}
use Rattle.ring_nodes.proofs.Joins.{fails_through, joins_through}
use Rattle.ring_nodes.proofs.nodes.RingNodes.join_through.Goals as goal

pub returns-in_default-clause-joins : goal.returns-in_default-clause-joins
returns-in_default-clause-joins g c =
    fails_through (g.J.Judge.judges c.args.judge.now) c.args.self.now c.args.replicas c.args.peer c.args.through.now c.look_up.new.self c.in_default.field-0
    (subst (λ f. (w : World) → IsNodesOf w c.args.self.now → Finds (g.J.Judge.judges c.args.judge.now) w c.args.peer.id c.args.through.now f (with_nodes w c.look_up.new.self)) c.in_default.is c.in_ok-owners.ensures.finds)

pub returns-clause-joins : goal.returns-clause-joins
returns-clause-joins g c =
    joins_through (g.J.Judge.judges c.args.judge.now) c.args.self.now c.args.replicas c.args.peer c.args.through.now c.look_up.new.self c.take_in.new.self c.in-Ok.owners
    (subst (λ f. (w : World) → IsNodesOf w c.args.self.now → Finds (g.J.Judge.judges c.args.judge.now) w c.args.peer.id c.args.through.now f (with_nodes w c.look_up.new.self)) c.in-Ok.is c.in_ok-owners.ensures.finds) c.in_ok-take_in.ensures.added
