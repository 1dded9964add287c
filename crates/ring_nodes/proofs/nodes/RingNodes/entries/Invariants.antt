use Rattle.std.proofs.Common.{◌≡◌, [], map, take, fold}
use Rattle.world_model.specs.World.{peer_of, with_numbered}
use Rattle.ring_nodes.proofs.nodes.RingNodes.entries.Given as goal

-- the peers of the nodes so far
abbrev pub invariant-numbered : goal.invariant-numbered
invariant-numbered l = l.peers.items ≡ fold with_numbered [] (map peer_of (take l.node-index l.self.nodes))
