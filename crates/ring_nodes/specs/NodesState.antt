-- Nodes in memory, as contracts see them, and the worlds whose nodes they are.
use Rattle.std.specs.Prelude.{◌≡◌, ℕ, List, [], map, find, Option, Some, None, IfSome, if◌then◌else◌}
use Rattle.std.specs.List.{AllByRecursion}
use Rattle.std.specs.Ordering.{eq_by_cmp}
use Rattle.ivy_base.specs.declared.key.Key.{Key}
use Rattle.ivy_base.specs.Naming.{key_cmp}
use Rattle.ring_model.specs.Members.{IsAmong}
use Rattle.dht_ids.specs.declared.ask.Answer.{Answer}
use Rattle.dht_ids.specs.declared.ask.Answer.TheVariants as answer
use Rattle.dht_ids.specs.declared.ask.Ask.{Ask}
use Rattle.dht_ids.specs.declared.ask.Ask.TheVariants as ask
use Rattle.dht_ids.specs.declared.peer.Peer.{Peer}
use Rattle.dht_ids.specs.declared.post.Post.{Post}
use Rattle.node_store.specs.Stores.{post_of}
use Rattle.round_laws.specs.RingOf.{AreApart, AreNamed, KnowsOnly}
use Rattle.world_model.specs.Nodes.{Node}
use Rattle.world_model.specs.World.{World, peer_of}

-- the nodes in the order in which they were made, how many asks there were, and which asks are lost
pub record NodesState : Type 0 where
  pub nodes : List Node
  pub asked : ℕ
  pub lost : List ℕ

abbrev pub no_nodes : NodesState
no_nodes = record { nodes = []; asked = 0; lost = [] }

-- the world has these nodes, and that many asks were made in it, of which these are lost
abbrev pub IsNodesOf : World → NodesState → Type 0
IsNodesOf w s = (w.nodes ≡ s.nodes) × (w.asked ≡ s.asked) × (w.lost ≡ s.lost)

-- the world with these nodes
abbrev pub with_nodes : World → NodesState → World
with_nodes w s = record w { nodes = s.nodes; asked = s.asked; lost = s.lost }

-- the peers that were made
abbrev pub made_peers : NodesState → List Peer
made_peers s = map peer_of s.nodes

-- each has the identifier of its number, no two stand at one place, and each knows of peers alone that were made
pub record AreSound (nodes : List Node) : Type 0 where
  pub named : AreNamed (map peer_of nodes)
  pub apart : AreApart (map peer_of nodes)
  pub known : AllByRecursion (KnowsOnly (map peer_of nodes)) nodes

-- a notice is of one of these peers
abbrev pub BringsOnly : List Peer → Ask → Type 0
BringsOnly made (ask.Notify peer) = IsAmong peer made
BringsOnly made _ = Unit {0}

abbrev pub AreAllAmong : List Peer → List Peer → Type 0
AreAllAmong made = AllByRecursion (λ q. IsAmong q made)

-- the answer names these peers alone
abbrev pub NamesOnly : List Peer → Answer → Type 0
NamesOnly made (answer.Route nearer owners) = AreAllAmong made nearer × AreAllAmong made owners
NamesOnly made (answer.Near before list) = IfSome before (λ q. IsAmong q made) × AreAllAmong made list
NamesOnly made _ = Unit {0}

-- the node of that identifier
abbrev pub node_of : NodesState → Key → Option Node
node_of s id = find (λ n. eq_by_cmp key_cmp (peer_of n).id id) s.nodes

-- the peer of the node, where there is one; by its identifier that node is found
abbrev pub IsPeerOf : NodesState → Option Node → Option Peer → Type 0
IsPeerOf s None peer = peer ≡ None
IsPeerOf s (Some n) peer = (peer ≡ Some (peer_of n)) × (node_of s (peer_of n).id ≡ Some n)

-- what a live node holds, as it is put at other nodes
abbrev pub held_by : Option Node → Option (List Post)
held_by None = None
held_by (Some n) = if n.is_live then Some (map post_of n.blocks) else None
