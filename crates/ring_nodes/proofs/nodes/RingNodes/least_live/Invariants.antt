use Rattle.std.proofs.Common.{◌≡◌, map, take, filter}
use Rattle.world_model.specs.World.{peer_of}
use Rattle.world_model.specs.Ring.{least}
use Rattle.ring_nodes.proofs.nodes.RingNodes.least_live.Given as goal

-- the least of the live nodes so far
abbrev pub invariant-live : goal.invariant-live
invariant-live l = l.found ≡ least (map peer_of (filter (λ n. n.is_live) (take l.node-index l.self.nodes)))
