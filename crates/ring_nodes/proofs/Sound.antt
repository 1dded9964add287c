-- Nodes stay sound: where one is exchanged, where a ring is made, and where one is added.
use Rattle.std.proofs.Common.{◌≡◌, inl, inr, ℕ, zero, suc, ◌<◌, ◌≤◌, Bool, true, false, not, ◌&&◌, ◌||◌, ◌==◌, List, [], ◌∷◌, ◌++◌, length, map, set, get_or, refl, sym, ap, subst, Option, Some, None, IfSome, arith}
use Rattle.std.specs.List.{AllByRecursion, position}
use Rattle.std.specs.Prelude.{nat_le}
use Rattle.std.proofs.lemmas.Bool.{le-leb, ne_eqb}
use Rattle.ivy_base.specs.declared.key.Key.{Key}
use Rattle.ring_model.specs.Members.{IsAmong}
use Rattle.ring_model.proofs.Lists.{all-among, all-both, all_weaker, among-left, index_among}
use Rattle.dht_ids.specs.NodeIds.{node_id_of}
use Rattle.dht_ids.specs.Peers.{place}
use Rattle.dht_ids.specs.declared.peer.Peer.{Peer}
use Rattle.dhash_model.specs.State.{State}
use Rattle.world_model.specs.Nodes.{Node}
use Rattle.world_model.specs.World.{World, empty_world, peer_of}
use Rattle.world_model.specs.Ring.{AreSettled, first_peers, in_ring_order, is_refused_ring}
use Rattle.world_model.specs.Ring.RingLine.{makes}
use Rattle.round_laws.specs.RingOf.{AreApart, AreNamed, KnowsOnly}
use Rattle.round_laws.proofs.Standing.{from_knows, knows_of, to_knows}
use Rattle.round_laws.proofs.Ringing.{apart_with, is_known, one_id, ring_line_settles}
use Rattle.ring_nodes.specs.NodesState.{AreSound, NodesState, made_peers}
use Rattle.ring_nodes.specs.Joining.{IsNewNode, with_node_more}
use Rattle.ring_nodes.proofs.Places.{found_within, has_id, peers_set}

-- ---- one in another's place

all_set : (P : Node → Type 0) (nodes : List Node) (i : ℕ) (n : Node) → AllByRecursion P nodes → P n → AllByRecursion P (set nodes i n)
all_set P [] i n a h = tt
all_set P (m ∷ nodes) zero n a h = (h, a.1)
all_set P (m ∷ nodes) (suc i) n a h = (a.0, all_set P nodes i n a.1 h)

among_peers : (n : Node) (nodes : List Node) → IsAmong n nodes → IsAmong (peer_of n) (map peer_of nodes)
among_peers n [] h = absurd h
among_peers n (m ∷ nodes) (inl e) = inl (ap peer_of e)
among_peers n (m ∷ nodes) (inr h) = inr (among_peers n nodes h)

module _ (nodes : List Node) (i : ℕ) (old : Node) (sound : AreSound nodes) (within : i < length nodes) (is : old ≡ get_or nodes i old) where
  old_among : IsAmong old nodes
  old_among = subst (λ n. IsAmong n nodes) (sym is) (index_among nodes i old within)

  pub old_made : IsAmong (peer_of old) (map peer_of nodes)
  old_made = among_peers old nodes old_among

  pub old_knows : KnowsOnly (map peer_of nodes) old
  old_knows = all-among (KnowsOnly (map peer_of nodes)) old nodes sound.known old_among

  pub sound_set : (n : Node) → peer_of n ≡ peer_of old → KnowsOnly (map peer_of nodes) n → AreSound (set nodes i n)
  sound_set n same knows = let made : map peer_of (set nodes i n) ≡ map peer_of nodes = peers_set nodes i n old is same in record {
    named = subst AreNamed (sym made) sound.named;
    apart = subst AreApart (sym made) sound.apart;
    known = subst (λ l. AllByRecursion (KnowsOnly l) (set nodes i n)) (sym made) (all_set (KnowsOnly (map peer_of nodes)) nodes i n sound.known knows);
  }

-- the same by what a walk and a call give
pub exchanged : (nodes : List Node) (s : NodesState) (id : Key) (i : ℕ) (old n : Node) → nodes ≡ s.nodes → position (has_id id) s.nodes ≡ Some i → old ≡ get_or nodes i old → AreSound nodes → peer_of n ≡ peer_of old
    → (KnowsOnly (map peer_of nodes) old → IsAmong (peer_of old) (map peer_of nodes) → KnowsOnly (map peer_of nodes) n) → AreSound (set nodes i n)
exchanged nodes s id i old n same found is sound peer knows =
    let within : i < length nodes = subst (λ l. i < length l) (sym same) (found_within (has_id id) s.nodes i found) in
    sound_set nodes i old sound within is n peer (knows (old_knows nodes i old sound within is) (old_made nodes i old sound within is))

pub same_ring : (made : List Peer) (old n : Node) → n.ring ≡ old.ring → KnowsOnly made old → KnowsOnly made n
same_ring made old n e h = from_knows made n (subst (λ (g : State). knows_of made g.links) (sym e) (to_knows made old h))

-- ---- a ring that is made

not_refused : (a b c : Bool) → a ≡ true → b ≡ true → c ≡ false → (false || not (a && b) || c) ≡ false
not_refused true true false e f g = refl
not_refused true true true e f g = absurd cc
not_refused true false c e f g = absurd cc
not_refused false b c e f g = absurd cc

pub sound_settled : (count r : ℕ) (nodes : List Node) → 1 ≤ count → count ≤ 256 → 1 ≤ r → r ≤ 8 → AreSettled (in_ring_order (first_peers count)) r (first_peers count) nodes → AreSound nodes
sound_settled count r nodes some few low high settled =
    let next : World = record empty_world { replicas = Some r; nodes = nodes } in
    let goes : is_refused_ring empty_world count r ≡ false = not_refused (nat_le 1 r) (nat_le r 8) (count == 0) (le-leb 1 r low) (le-leb r 8 high) (ne_eqb count 0 (λ e. absurd (omega (arith, e, some)))) in
    let made = ring_line_settles empty_world next count r [] (makes nodes goes (le-leb count 256 few) settled) in
    record { named = made.4; apart = made.0.apart; known = made.0.known }

-- ---- one more

peers_more : (nodes : List Node) (n : Node) → map peer_of (nodes ++ n ∷ []) ≡ map peer_of nodes ++ peer_of n ∷ []
peers_more [] n = refl
peers_more (m ∷ nodes) n = ap (λ (ps : List Peer). peer_of m ∷ ps) (peers_more nodes n)

some_weaker : (P Q : Peer → Type 0) (o : Option Peer) → ((q : Peer) → P q → Q q) → IfSome o P → IfSome o Q
some_weaker P Q None f h = tt
some_weaker P Q (Some q) f h = f q h

pub sound_more : (s : NodesState) (n : Node) → AreSound s.nodes → IsNewNode s n → AreSound (with_node_more s n).nodes
sound_more s n sound new = record {
  named = subst AreNamed (sym more) (all-both (λ (p : Peer). p.id ≡ node_id_of p.number) (made_peers s) (peer_of n ∷ []) sound.named (new.peer.named, tt));
  apart = subst AreApart (sym more) (apart_with (made_peers s) (peer_of n) sound.apart free);
  known = subst (λ l. AllByRecursion (KnowsOnly l) (s.nodes ++ n ∷ [])) (sym more) (all-both (KnowsOnly (made_peers s ++ peer_of n ∷ [])) s.nodes (n ∷ []) (all_weaker (KnowsOnly (made_peers s)) (KnowsOnly (made_peers s ++ peer_of n ∷ [])) s.nodes wider sound.known) (new.knows, tt));
}
  where
    more : map peer_of (s.nodes ++ n ∷ []) ≡ made_peers s ++ peer_of n ∷ []
    more = peers_more s.nodes n

    free : (q : Peer) → IsAmong q (made_peers s) → place q ≡ place (peer_of n) → ⊥
    free q i same =
        is_known (made_peers s) (peer_of n) q new.peer.unknown i
        (one_id q (peer_of n) (all-among (λ (p : Peer). p.id ≡ node_id_of p.number) q (made_peers s) sound.named i) new.peer.named same)

    later : (q : Peer) → IsAmong q (made_peers s) → IsAmong q (made_peers s ++ peer_of n ∷ [])
    later q i = among-left q (made_peers s) (peer_of n ∷ []) i

    wider : (m : Node) → KnowsOnly (made_peers s) m → KnowsOnly (made_peers s ++ peer_of n ∷ []) m
    wider m h = record {
      list = all_weaker (λ q. IsAmong q (made_peers s)) (λ q. IsAmong q (made_peers s ++ peer_of n ∷ [])) m.ring.links.list later h.list;
      fingers = all_weaker (λ q. IsAmong q (made_peers s)) (λ q. IsAmong q (made_peers s ++ peer_of n ∷ [])) m.ring.links.fingers later h.fingers;
      before = some_weaker (λ q. IsAmong q (made_peers s)) (λ q. IsAmong q (made_peers s ++ peer_of n ∷ [])) m.ring.links.before later h.before;
    }
