use Rattle.std.proofs.Common.{◌≡◌, ◌++◌, map}
use Rattle.world_model.specs.World.{peer_of}
use Rattle.ring_run.proofs.seat.seats_of.Given as goal

-- the seats so far
abbrev pub invariant-nodes : goal.invariant-nodes
invariant-nodes l = record {
  items : l.fn.nodes.items ≡ l.yielded ++ l.node-iterator.rest.items;
  peers : map (λ s. s.peer) l.seats.items ≡ map peer_of l.yielded;
}
