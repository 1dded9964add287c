-- Which nodes of a world live.
use Rattle.std.specs.Prelude.{nat_eq, Bool, false, Option, Some, None, if◌then◌else◌}
use Rattle.std.specs.Option.{option_map_or}
use Rattle.dht_ids.specs.declared.peer.Peer.{Peer}
use Rattle.world_model.specs.Nodes.{Node}
use Rattle.world_model.specs.World.{World, node_at, peer_of}

-- the node that the peer itself is: a peer of its identifier and another number has none
abbrev pub own_node : Peer → Option Node → Option Node
own_node p None = None
own_node p (Some n) = if nat_eq (peer_of n).number p.number then Some n else None

-- the node of the world that the peer is
abbrev pub node_of : World → Peer → Option Node
node_of w p = own_node p (node_at w p.id)

-- the peer's node lives
abbrev pub lives_in : World → Peer → Bool
lives_in w p = option_map_or (λ n. n.is_live) (node_of w p) false
