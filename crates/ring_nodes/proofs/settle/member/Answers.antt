use Rattle.std.proofs.Common.{sym, ap, ◌∙◌, subst}
use Rattle.dhash_model.specs.Settled.{IsSettledNode}
use Rattle.world_model.specs.Nodes.{Node}
use Rattle.world_model.specs.Ring.{empty_node, in_ring_order}
use Rattle.ring_nodes.proofs.Settling.{order_is_moved, order_rises}
use Rattle.ring_nodes.proofs.settle.member.Goals as goal

pub empty-requires : goal.empty-requires
empty-requires c =
    let s : IsSettledNode (in_ring_order c.args.members.now) c.args.me c.args.replicas c.in_ok-ring.ring = c.in_ok-ring.ensures (in_ring_order c.args.members.now) (order_rises c.args.members.now c.requires.apart) (order_is_moved c.args.members.now) in
    s.itself

pub returns : goal.returns
returns c =
    let s : IsSettledNode (in_ring_order c.args.members.now) c.args.me c.args.replicas c.in_ok-ring.ring = c.in_ok-ring.ensures (in_ring_order c.args.members.now) (order_rises c.args.members.now c.requires.apart) (order_is_moved c.args.members.now) in
    (subst (λ (n : Node). IsSettledNode (in_ring_order c.args.members.now) c.args.me c.args.replicas n.ring) (sym c.empty.ensures) s, c.empty.ensures ∙ ap (λ (n : Node). empty_node n.ring) (sym c.empty.ensures))
