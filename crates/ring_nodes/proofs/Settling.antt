-- The nodes of a settled ring, one after the other.
use Rattle.std.proofs.Common.{◌≡◌, ℕ, zero, suc, ◌+◌, Bool, true, false, cond, List, [], ◌∷◌, ◌++◌, map, filter, take, get_or, length, ◌<◌, arith, refl, sym, ap, ◌∙◌, subst, ⊎_elim}
use Rattle.std.specs.List.Sorted.{IsPermutation}
use Rattle.std.proofs.Math.Seq.{take-suc}
use Rattle.std.proofs.lemmas.List.Sorted.{IsPermutation-sym}
use Rattle.ring_model.specs.Members.{IsAmong, HasAscendingPlaces}
use Rattle.ring_model.proofs.Lists.{among-cases}
use Rattle.dht_ids.specs.NodeIds.{node_id_of}
use Rattle.dht_ids.specs.declared.peer.Peer.{Peer}
use Rattle.dht_ids.specs.Peers.{place}
use Rattle.dhash_model.specs.State.{State}
use Rattle.dhash_model.specs.Settled.{IsSettledNode}
use Rattle.world_model.specs.Nodes.{Node}
use Rattle.world_model.specs.Ring.{AreSettled, empty_node, first_peers, in_ring_order, is_known_id, peer_numbered}
use Rattle.world_model.specs.Ring.AreSettled.{none as nobody, more as one_more}
use Rattle.round_laws.specs.RingOf.{AreApart}
use Rattle.round_laws.proofs.Nodes.{Shape, made_by}
use Rattle.round_laws.proofs.Order.{order_ascends}
use Rattle.round_laws.proofs.Ringing.{apart_with, is_known, one_id}
use Rattle.ring_nodes.proofs.Numbering.{order_moves}

-- ---- peers in the order of their places

abbrev living : Peer → Shape
living p = (p, true, 0)

all_living : (ps : List Peer) → map (λ (s : Shape). s.0) (filter (λ (s : Shape). s.1) (map living ps)) ≡ ps
all_living [] = refl
all_living (p ∷ ps) = ap (λ (l : List Peer). p ∷ l) (all_living ps)

made_living : (ps : List Peer) → made_by (map living ps) ≡ ps
made_living [] = refl
made_living (p ∷ ps) = ap (λ (l : List Peer). p ∷ l) (made_living ps)

pub order_rises : (ps : List Peer) → AreApart ps → HasAscendingPlaces place (in_ring_order ps)
order_rises ps apart = subst (λ l. HasAscendingPlaces place (in_ring_order l)) (all_living ps) (order_ascends (map living ps) (subst AreApart (sym (made_living ps)) apart))

pub order_is_moved : (ps : List Peer) → IsPermutation (in_ring_order ps) ps
order_is_moved ps = IsPermutation-sym ps (in_ring_order ps) (order_moves ps)

-- ---- the first peers

abbrev IsNamed : Peer → Type 0
IsNamed p = p.id ≡ node_id_of p.number

first_named : (n : ℕ) (q : Peer) → IsAmong q (first_peers n) → IsNamed q
first_named zero q i = elim i [ ]
first_named (suc n) q i = by (is_known_id (first_peers n) (peer_numbered n)) i (λ j. first_named n q j)
  where
    by : (t : Bool) → IsAmong q (cond t (first_peers n) (first_peers n ++ peer_numbered n ∷ [])) → (IsAmong q (first_peers n) → IsNamed q) → IsNamed q
    by true i earlier = earlier i
    by false i earlier = ⊎_elim (λ j. earlier j) (λ j. ⊎_elim (λ e. subst IsNamed e refl) (λ n. elim n [ ]) j) (among-cases q (first_peers n) (peer_numbered n ∷ []) i)

pub first_apart : (n : ℕ) → AreApart (first_peers n)
first_apart zero = tt
first_apart (suc n) = by (is_known_id (first_peers n) (peer_numbered n)) refl (first_apart n)
  where
    by : (t : Bool) → is_known_id (first_peers n) (peer_numbered n) ≡ t → AreApart (first_peers n) → AreApart (cond t (first_peers n) (first_peers n ++ peer_numbered n ∷ []))
    by true k a = a
    by false k a = apart_with (first_peers n) (peer_numbered n) a (λ q i s. is_known (first_peers n) (peer_numbered n) q k i (one_id q (peer_numbered n) (first_named n q i) refl s))

-- ---- the nodes

-- one node more
pub settled_more : (live : List Peer) (r : ℕ) (ps : List Peer) (ns : List Node) (p : Peer) (state : State) → AreSettled live r ps ns → IsSettledNode live p r state → AreSettled live r (ps ++ p ∷ []) (ns ++ empty_node state ∷ [])
settled_more live r [] ns p state nobody s = one_more state s nobody
settled_more live r (q ∷ ps) all p state (one_more {nodes = ns} first f rest) s = one_more first f (settled_more live r ps ns p state rest s)

-- a step of a loop over the peers
pub settled_step : (live : List Peer) (r : ℕ) (ps : List Peer) (ns after : List Node) (i : ℕ) (p : Peer) (n : Node) → AreSettled live r (take i ps) ns → IsSettledNode live p r n.ring × (n ≡ empty_node n.ring)
    → take (i + 1) ps ≡ take i ps ++ p ∷ [] → after ≡ ns ++ n ∷ [] → AreSettled live r (take (i + 1) ps) after
settled_step live r ps ns after i p n before made taken pushed =
    subst (λ l. AreSettled live r l after) (sym taken)
    (subst (λ l. AreSettled live r (take i ps ++ p ∷ []) l) (sym pushed)
    (subst (λ m. AreSettled live r (take i ps ++ p ∷ []) (ns ++ m ∷ [])) (sym made.1) (settled_more live r (take i ps) ns p n.ring before made.0)))

pub step_taken : (ps read : List Peer) (i : ℕ) (d : Peer) → read ≡ ps → i < length read → take (i + 1) ps ≡ take i ps ++ get_or read i d ∷ []
step_taken ps read i d same within =
    let one : i + 1 ≡ suc i = omega arith in
    subst (λ l. take (i + 1) l ≡ take i l ++ get_or read i d ∷ []) same (ap (λ k. take k read) one ∙ take-suc read i d within)
