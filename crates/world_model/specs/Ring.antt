-- Lines that change the ring: it is made, a node joins or stops.
use Rattle.std.specs.Prelude.{◌≡◌, ℕ, zero, suc, ◌==◌, ◌<◌, nat_lt, nat_le, Bool, true, false, ◌&&◌, ◌||◌, not, List, [], ◌∷◌, ◌++◌, length}
use Rattle.std.specs.Prelude.{map, fold, codes, Option, Some, None, is_some, if◌then◌else◌}
use Rattle.std.specs.List.{list_any}
use Rattle.std.specs.Fmt.{decimal}
use Rattle.std.specs.Ordering.{eq_by_cmp}
use Rattle.ivy_base.specs.declared.key.Key.{Key}
use Rattle.ivy_base.specs.Naming.{key_cmp}
use Rattle.ring_model.specs.Lookup.{IsLookup}
use Rattle.dht_ids.specs.declared.ask.Ask.TheVariants as ask
use Rattle.dht_ids.specs.declared.judge.Judged.{Judged}
use Rattle.dht_ids.specs.declared.peer.Peer.{Peer}
use Rattle.dht_ids.specs.NodeIds.{node_id_of}
use Rattle.dht_ids.specs.Peers.{place}
use Rattle.dht_ids.specs.Asked.{routes}
use Rattle.dhash_model.specs.Execution.{Told}
use Rattle.dhash_model.specs.State.{State, adopted, alone_node, with_list}
use Rattle.dhash_model.specs.Settled.{IsSettledNode}
use Rattle.script_driver.specs.Run.{Outcome, Goes, Refuses, Exceeds}
use Rattle.world_model.specs.Nodes.{Node}
use Rattle.world_model.specs.World.{World, live_peers, peer_of, with_node}
use Rattle.world_model.specs.Fates.{Fates, asking}

-- ---- peers

abbrev pub peer_numbered : ℕ → Peer
peer_numbered number = record { number = number; id = node_id_of number }

abbrev pub is_known_id : List Peer → Peer → Bool
is_known_id peers p = list_any (λ q. eq_by_cmp key_cmp q.id p.id) peers

-- the peers of the first numbers; one whose identifier stands already is left out
abbrev pub first_peers : ℕ → List Peer
first_peers zero = []
first_peers (suc n) = (let before = first_peers n in if is_known_id before (peer_numbered n) then before else before
    ++ peer_numbered n ∷ [])

-- peers in the order of their places
abbrev pub with_peer : List Peer → Peer → List Peer
with_peer [] p = p ∷ []
with_peer (q ∷ qs) p = if nat_lt (place p) (place q) then p ∷ q ∷ qs else q ∷ with_peer qs p

abbrev pub in_ring_order : List Peer → List Peer
in_ring_order peers = fold with_peer [] peers

abbrev pub live_in_order : World → List Peer
live_in_order w = in_ring_order (live_peers w)

-- ---- ring

-- a live node that holds nothing
abbrev pub empty_node : State → Node
empty_node state = record { ring = state; is_live = true; blocks = [] }

-- the nodes of a settled ring
pub data AreSettled (live : List Peer) (r : ℕ) : List Peer → List Node → Type 0 where
  none : AreSettled live r [] []
  more : {p : Peer} {peers : List Peer} {nodes : List Node} (state : State) → IsSettledNode live p r state → AreSettled live r peers nodes
      → AreSettled live r (p ∷ peers) (empty_node state ∷ nodes)

abbrev pub is_refused_ring : World → ℕ → ℕ → Bool
is_refused_ring w count r = is_some w.replicas || not (nat_le 1 r && nat_le r 8) || count == 0

pub data RingLine (w : World) (count r : ℕ) : Outcome World → Type 0 where
  refused : is_refused_ring w count r ≡ true → RingLine w count r Refuses
  exceeds : is_refused_ring w count r ≡ false → nat_le count 256 ≡ false → RingLine w count r Exceeds
  makes : (nodes : List Node) → is_refused_ring w count r ≡ false → nat_le count 256 ≡ true
      → AreSettled (in_ring_order (first_peers count)) r (first_peers count) nodes
      → RingLine w count r (Goes (record w { replicas = Some r; nodes = nodes }) [])

-- ---- stop

abbrev pub stop_line : World → Option Node → Outcome World
stop_line w None = Refuses
stop_line w (Some n) = if n.is_live then Goes (with_node w (record n { is_live = false })) [] else Refuses

-- ---- join

-- A look-up of the key from these nodes on, by asks in the world.
pub record LooksUp (judged : Key → List ℕ → Option Judged) (w : World) (key : Key) (entries : List Peer) (found : Option (List Peer))
    (next : World) : Type 0 where
  pub looks : Told
  pub fates : Fates judged w (asking (ask.Route key) looks) next
  pub lookup : IsLookup [] None entries (routes looks) found

-- nodes by their numbers: the first of them
abbrev pub least : List Peer → Option Peer
least [] = None
least (p ∷ ps) = Some (fold (λ q r. if nat_lt r.number q.number then r else q) p ps)

abbrev pub joined_node : Peer → ℕ → List Peer → Node
joined_node p r list = empty_node (with_list (alone_node p r) (adopted (alone_node p r) list))

abbrev pub with_new_node : World → Node → World
with_new_node w n = record w { nodes = w.nodes ++ n ∷ [] }

abbrev pub failed_join_text : ℕ → List ℕ
failed_join_text number = codes "join " ++ decimal number ++ codes " failed" ++ 10 ∷ []

-- a look-up ended without owners
abbrev pub FindsNobody : Option (List Peer) → Type 0
FindsNobody None = Unit {0}
FindsNobody (Some []) = Unit {0}
FindsNobody (Some (p ∷ ps)) = ⊥

-- a node joins through the live node of the least number; where none lives it is alone
pub data JoinLine (judged : Key → List ℕ → Option Judged) (w : World) (number : ℕ) : Option ℕ → Outcome World → Type 0 where
  before_ring : JoinLine judged w number None Refuses
  known : (r : ℕ) → is_known_id (map peer_of w.nodes) (peer_numbered number) ≡ true → JoinLine judged w number (Some r) Refuses
  exceeds : (r : ℕ) → is_known_id (map peer_of w.nodes) (peer_numbered number) ≡ false → nat_le 256 (length w.nodes) ≡ true
      → JoinLine judged w number (Some r) Exceeds
  alone : (r : ℕ) → is_known_id (map peer_of w.nodes) (peer_numbered number) ≡ false → nat_le 256 (length w.nodes) ≡ false
      → least (live_peers w) ≡ None
      → JoinLine judged w number (Some r) (Goes (with_new_node w (empty_node (alone_node (peer_numbered number) r))) [])
  joins : (r : ℕ) (through p : Peer) (ps : List Peer) (next : World) → is_known_id (map peer_of w.nodes) (peer_numbered number) ≡ false
      → nat_le 256 (length w.nodes) ≡ false
      → least (live_peers w) ≡ Some through → LooksUp judged w (peer_numbered number).id (through ∷ []) (Some (p ∷ ps)) next
      → JoinLine judged w number (Some r) (Goes (with_new_node next (joined_node (peer_numbered number) r (p ∷ ps))) [])
  fails : (r : ℕ) (through : Peer) (found : Option (List Peer)) (next : World)
      → is_known_id (map peer_of w.nodes) (peer_numbered number) ≡ false → nat_le 256 (length w.nodes) ≡ false
      → least (live_peers w) ≡ Some through → LooksUp judged w (peer_numbered number).id (through ∷ []) found next → FindsNobody found
      → JoinLine judged w number (Some r) (Goes next (failed_join_text number))
