-- What a round reads of a node, and what it changes of it.
use Rattle.std.specs.Prelude.{◌≡◌, ℕ, List, fold, set, Some, None}
use Rattle.ivy_base.specs.declared.key.Key.{Key}
use Rattle.dht_ids.specs.declared.ask.Answer.{Answer}
use Rattle.dht_ids.specs.declared.peer.Peer.{Peer}
use Rattle.dhash_model.specs.State.{stabilised, with_links}
use Rattle.dhash_model.specs.Stores.{without}
use Rattle.world_model.specs.Nodes.{Node}
use Rattle.world_model.specs.Rounds.{listing_now}
use Rattle.world_model.specs.World.{World, with_node}
use Rattle.ring_nodes.specs.NodesState.{IsNodesOf, NodesState, node_of, with_nodes}

-- so it is with the node of that identifier
abbrev pub HasNode : (Node → Type 0) → NodesState → Key → Type 0
HasNode Is s id = (n : Node) × (node_of s id ≡ Some n) × Is n

-- the node of that identifier is changed so, and nothing else
pub record Changes (change : Node → Node) (id : Key) (old new : NodesState) : Type 0 where
  pub node : Node
  pub at : node_of old id ≡ Some node
  pub is : (w : World) → IsNodesOf w old → with_nodes w new ≡ with_node w (change node)

-- without its predecessor
abbrev pub forgotten : Node → Node
forgotten n = record n { ring = with_links n.ring (record n.ring.links { before = None }) }

-- with the list that it makes of what the first entry answered
abbrev pub renewed_by : Answer → Node → Node
renewed_by heard n = listing_now n (stabilised n.ring n.ring.links.list heard)

-- with that finger, counted from 0
abbrev pub fingered : ℕ → Peer → Node → Node
fingered k f n = record n { ring = with_links n.ring (record n.ring.links { fingers = set n.ring.links.fingers k f }) }

-- without the blocks of these keys
abbrev pub without_blocks : List Key → Node → Node
without_blocks keys n = record n { blocks = fold (λ blocks key. without key blocks) n.blocks keys }
