use Rattle.std.proofs.Common.{map}
use Rattle.world_model.specs.Ring.{first_peers, in_ring_order}
use Rattle.ring_run.proofs.Numbers.{new_is_live}
use Rattle.ring_run.proofs.Seats.{made_first}
use Rattle.ring_run.proofs.ring.LiveRing.make_with.Goals as goal

pub invariant_of-result : goal.invariant_of-result
invariant_of-result g c =
    let first = made_first (λ s. s.peer) (in_ring_order (first_peers c.args.count)) c.args.replicas c.args.count c.in_ok-settled_nodes.field-0.items c.in_ok-live.live.items c.deref.result.now c.in_ok-made.made.items
    c.in_ok-settled_nodes.ensures c.in_ok-live.ensures c.deref.ensures.value c.in_ok-made.ensures in
    new_is_live c.args.count c.args.replicas c.in_ok-made.made.items (map (λ s. s.peer) c.in_ok-live.live.items) first.0 first.1 c.requires.count.0 c.requires.few.0 c.requires.few.1

pub returns : goal.returns
returns g c =
    let first = made_first (λ s. s.peer) (in_ring_order (first_peers c.args.count)) c.args.replicas c.args.count c.in_ok-settled_nodes.field-0.items c.in_ok-live.live.items c.deref.result.now c.in_ok-made.made.items
    c.in_ok-settled_nodes.ensures c.in_ok-live.ensures c.deref.ensures.value c.in_ok-made.ensures in
    λ i. record { replicas = c.args.replicas; made = first.0 i; live = first.1 i }
