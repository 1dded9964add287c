-- What becomes of a look-up and of a node that is to join, and the worlds then.
use Rattle.std.specs.Prelude.{◌≡◌, ℕ, nat_lt, false, List, [], ◌∷◌, ◌++◌, Option, Some, None, Result, if◌then◌else◌}
use Rattle.ivy_base.specs.declared.key.Key.{Key}
use Rattle.dht_ids.specs.NodeIds.{node_id_of}
use Rattle.dht_ids.specs.declared.judge.Judged.{Judged}
use Rattle.dht_ids.specs.declared.peer.Peer.{Peer}
use Rattle.dhash_model.specs.Execution.{outcome}
use Rattle.dhash_model.specs.declared.miss.Miss.{Miss}
use Rattle.round_laws.specs.RingOf.{KnowsOnly}
use Rattle.script_driver.specs.Run.{Outcome, Goes, Refuses, Exceeds}
use Rattle.world_model.specs.Nodes.{Node}
use Rattle.world_model.specs.Ring.{FindsNobody, LooksUp, failed_join_text, is_known_id, joined_node, with_new_node}
use Rattle.world_model.specs.World.{World, peer_of}
use Rattle.ring_nodes.specs.declared.joining.Join.{Join}
use Rattle.ring_nodes.specs.declared.joining.Join.TheVariants as join
use Rattle.ring_nodes.specs.NodesState.{NodesState, made_peers}

-- a look-up of the key through that node, by asks in the world, has this result
abbrev pub Finds : (Key → List ℕ → Option Judged) → World → Key → Peer → Result (List Peer) Miss → World → Type 0
Finds judged w key through result next =
    (found : Option (List Peer)) × (outcome key found ≡ result) × LooksUp judged w key (through ∷ []) found next

-- no node has the peer's identifier, which is that of its number
pub record IsNewPeer (s : NodesState) (p : Peer) : Type 0 where
  pub unknown : is_known_id (made_peers s) p ≡ false
  pub named : p.id ≡ node_id_of p.number

-- so it is with the node, which knows of itself and of peers alone that were made
pub record IsNewNode (s : NodesState) (n : Node) : Type 0 where
  pub peer : IsNewPeer s (peer_of n)
  pub knows : KnowsOnly (made_peers s ++ peer_of n ∷ []) n

abbrev pub with_node_more : NodesState → Node → NodesState
with_node_more s n = record s { nodes = s.nodes ++ n ∷ [] }

-- the peer's own look-up through that node, and the world with the node that takes the owners for its list, or without one where there are
-- none
abbrev pub JoinsThrough : (Key → List ℕ → Option Judged) → World → ℕ → Peer → Peer → Join → World → Type 0
JoinsThrough judged w r p through join.Joined next =
    (q : Peer) × (qs : List Peer) × (mid : World) × LooksUp judged w p.id (through ∷ []) (Some (q ∷ qs)) mid
    × (next ≡ with_new_node mid (joined_node p r (q ∷ qs)))
JoinsThrough judged w r p through join.Failed next =
    (found : Option (List Peer)) × LooksUp judged w p.id (through ∷ []) found next × FindsNobody found
JoinsThrough judged w r p through _ next = ⊥

-- what the line of a join comes to, and the world after it
abbrev pub join_outcome : ℕ → Join → World → Outcome World
join_outcome number join.Joined next = Goes next []
join_outcome number join.Refused next = Refuses
join_outcome number join.Full next = Exceeds
join_outcome number join.Failed next = Goes next (failed_join_text number)

-- the line was refused or went too far
abbrev pub IsUndone : Join → Type 0
IsUndone join.Joined = ⊥
IsUndone join.Refused = Unit {0}
IsUndone join.Full = Unit {0}
IsUndone join.Failed = ⊥

-- of two peers the one of the lesser number
abbrev pub lesser_of : Option Peer → Peer → Peer
lesser_of None second = second
lesser_of (Some first) second = if nat_lt second.number first.number then second else first
