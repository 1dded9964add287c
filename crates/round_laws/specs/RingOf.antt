-- The ring of a world: who lives and what each node knows, as the definitions of rings take them, and what holds of the nodes of each world
-- of a script.
use Rattle.std.specs.Prelude.{◌≡◌, ℕ, suc, ◌<◌, ◌≤◌, true, List, [], ◌∷◌, map, Contains, Some, None, IfSome, ⊤}
use Rattle.std.specs.List.{AllByRecursion}
use Rattle.std.specs.Option.{option_map_or}
use Rattle.ring_model.specs.Circle.{identifier_bits}
use Rattle.ring_model.specs.Members.{IsAmong}
use Rattle.ring_model.specs.Ring.{Links, IsCoveredRing, IsSettledRing}
use Rattle.dht_ids.specs.declared.peer.Peer.{Peer}
use Rattle.dht_ids.specs.NodeIds.{node_id_of}
use Rattle.dht_ids.specs.Peers.{place}
use Rattle.world_model.specs.Nodes.{Node}
use Rattle.world_model.specs.World.{World, peer_of}
use Rattle.script_driver.specs.Run.{Goes}
use Rattle.world_model.specs.Ring.{live_in_order, stop_line}
use Rattle.world_model.specs.RingOf.{node_of, lives_in}

abbrev pub no_links : Links Peer
no_links = record { list = []; before = None; fingers = [] }

-- what each peer knows of others
abbrev pub links_in : World → Peer → Links Peer
links_in w p = option_map_or (λ n. n.ring.links) (node_of w p) no_links

-- the ring of the live nodes is settled
abbrev pub IsSettledIn : World → ℕ → Type 0
IsSettledIn w r = IsSettledRing place r identifier_bits (live_in_order w) (lives_in w) (links_in w)

-- and so much of it is right that look-ups find owners
abbrev pub IsCoveredIn : World → ℕ → Type 0
IsCoveredIn w r = IsCoveredRing place r (live_in_order w) (lives_in w) (links_in w)

-- no two of them stand at one place
abbrev pub AreApart : List Peer → Type 0
AreApart [] = ⊤
AreApart (p ∷ ps) = AllByRecursion (λ q. place p ≡ place q → ⊥) ps × AreApart ps

-- each has the identifier of its number
abbrev pub AreNamed : List Peer → Type 0
AreNamed = AllByRecursion (λ p. p.id ≡ node_id_of p.number)

-- the node knows of these peers alone
pub record KnowsOnly (made : List Peer) (n : Node) : Type 0 where
  pub list : AllByRecursion (λ q. IsAmong q made) n.ring.links.list
  pub fingers : AllByRecursion (λ q. IsAmong q made) n.ring.links.fingers
  pub before : IfSome n.ring.links.before (λ q. IsAmong q made)

-- the nodes of a ring: no two stand at one place, r of them own a key, and each knows of peers alone that were made
pub record AreNodes (r : ℕ) (w : World) : Type 0 where
  pub apart : AreApart (map peer_of w.nodes)
  pub replicas : AllByRecursion (λ n. n.ring.replicas ≡ r) w.nodes
  pub known : AllByRecursion (KnowsOnly (map peer_of w.nodes)) w.nodes

-- none of the asks between two worlds was lost
abbrev pub LosesNone : World → World → Type 0
LosesNone w next = (k : ℕ) → w.asked < k → k ≤ next.asked → Contains w.lost k → ⊥

-- the predecessors that live nodes know live
abbrev pub BeforesLive : World → Type 0
BeforesLive w = (p b : Peer) → lives_in w p ≡ true → (links_in w p).before ≡ Some b → lives_in w b ≡ true

-- so many nodes stopped, one after the other, and nothing else happened
pub data Stop : World → ℕ → World → Type 0 where
  none : {w : World} → Stop w 0 w
  one_more : {w mid next : World} {k : ℕ} {output : List ℕ} (n : Node) → Stop w k mid → IsAmong n mid.nodes
      → stop_line mid (Some n) ≡ Goes next output → Stop w (suc k) next
