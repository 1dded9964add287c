use Rattle.std.proofs.Common.{◌≡◌, [], map, take, filter, fold}
use Rattle.world_model.specs.World.{peer_of}
use Rattle.world_model.specs.Ring.{with_peer}
use Rattle.ring_nodes.proofs.nodes.RingNodes.live_in_order.Given as goal

-- the live peers of the nodes so far
abbrev pub invariant-live : goal.invariant-live
invariant-live l = l.peers.items ≡ fold with_peer [] (map peer_of (filter (λ n. n.is_live) (take l.node-index l.self.nodes)))
