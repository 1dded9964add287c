-- Lines that change the ring do something: there are the nodes of a settled ring, and a node that joins looks up its place.
use Rattle.std.proofs.Common.{◌≡◌, ◌⊎◌, inl, inr, ℕ, zero, suc, ◌+◌, ◌*◌, ◌<◌, Bool, true, false, cond, ◌&&◌, ◌||◌, not, List, [], ◌∷◌, ◌++◌, length, map, filter, get_or, take, Option, Some, None, refl, sym, ap, ◌∙◌, subst, arith, Contains, nat_lt, nat_le}
use Rattle.std.specs.Prelude.{◌==◌, is_some, fold}
use Rattle.std.specs.List.{last_or}
use Rattle.std.proofs.lemmas.Bool.{leb-false, lt-ltb}
use Rattle.dhash_model.specs.Signed.{hss_judged}
use Rattle.log_model.proofs.Lists.{or_right}
use Rattle.ring_model.specs.Members.{IsAmong, first, following, from_place}
use Rattle.ring_model.specs.Ring.{start}
use Rattle.ring_model.proofs.Lists.{among-left, among-right, among_filter, first_of}
use Rattle.dht_ids.specs.Peers.{place}
use Rattle.dht_ids.specs.declared.peer.Peer.{Peer}
use Rattle.dhash_model.specs.Settled.{IsSettledNode}
use Rattle.dhash_model.specs.State.{State}
use Rattle.script_driver.specs.Run.{Outcome, Refuses, Exceeds}
use Rattle.world_model.specs.Nodes.{Node}
use Rattle.world_model.specs.Ring.{AreSettled, FindsNobody, JoinLine, LooksUp, RingLine, empty_node, first_peers, in_ring_order, is_known_id, is_refused_ring, least, peer_numbered, with_peer}
use Rattle.world_model.specs.Ring.AreSettled.{none as settled_none, more as settled_more}
use Rattle.world_model.specs.Ring.RingLine.{refused as ring_refused, exceeds as ring_exceeds, makes as ring_makes}
use Rattle.world_model.specs.Ring.JoinLine.{before_ring as join_before_ring, known as join_known, exceeds as join_exceeds, alone as join_alone, joins as join_joins, fails as join_fails}
use Rattle.world_model.specs.GhostState.{GhostState}
use Rattle.world_model.specs.World.{World, live_peers, peer_of}
use Rattle.world_laws.specs.Invariant.{Invariant}
use Rattle.world_laws.proofs.ExistingAsks.{HasFound, looks_up}
use Rattle.world_laws.proofs.ExistingFates.{serves_so}
use Rattle.world_laws.proofs.NodeFates.{from_among}
use Rattle.world_laws.proofs.RingLines.{least_of, peers_of_live}

-- ---- a settled ring

-- a table of what stands at each index
table : {X : Type 0} → (ℕ → X) → ℕ → ℕ → List X
table f k zero = []
table f k (suc n) = f k ∷ table f (suc k) n

table_size : {X : Type 0} (f : ℕ → X) (k n : ℕ) → length (table f k n) ≡ n
unfolding table
table_size f k zero = refl
table_size f k (suc n) = ap suc (table_size f (suc k) n)

table_at : {X : Type 0} (f : ℕ → X) (k n i : ℕ) (d : X) → i < n → get_or (table f k n) i d ≡ f (k + i)
unfolding table
table_at f k zero i d h = absurd (omega (arith, h))
table_at f k (suc n) zero d h = ap f (omega arith)
table_at f k (suc n) (suc i) d h = table_at f (suc k) n i d (omega (arith, h)) ∙ ap f (omega arith)

among_from : (live : List Peer) (at : ℕ) (m : Peer) → IsAmong m live → IsAmong m (from_place place live at)
among_from live at m h = by_test (nat_le at (place m)) refl
  where
    by_test : (b : Bool) → nat_le at (place m) ≡ b → IsAmong m (from_place place live at)
    by_test true after = among-left m (filter (λ x. nat_le at (place x)) live) (filter (λ x. nat_lt (place x) at) live) (among_filter (λ x. nat_le at (place x)) m live h after)
    by_test false before =
        let below = leb-false at (place m) before in
        among-right m (filter (λ x. nat_le at (place x)) live) (filter (λ x. nat_lt (place x) at) live) (among_filter (λ x. nat_lt (place x) at) m live h (lt-ltb (place m) at (omega (arith, below))))

module _ (live : List Peer) (r : ℕ) (m : Peer) (among : IsAmong m live) where
  finger_at : (p : Peer) (k : ℕ) → (f : Peer) × (first (from_place place live (start place 160 p k)) ≡ Some f) × IsAmong f (from_place place live (start place 160 p k))
  finger_at p k = first_of (from_place place live (start place 160 p k)) m (among_from live (start place 160 p k) m among)

  settled_state : Peer → State
  settled_state p = record {
    me = p;
    replicas = r;
    links = record { list = take (2 * r) (following place live p); before = last_or None (following place live p); fingers = table (λ k. (finger_at p k).0) 0 160 };
  }

  is_settled : (p : Peer) → IsSettledNode live p r (settled_state p)
  unfolding settled_state
  is_settled p = record {
    itself = refl;
    replicas = refl;
    list = refl;
    before = refl;
    fingers = record {
      sized = table_size (λ k. (finger_at p k).0) 0 160;
      right = λ k few. ap Some (table_at (λ i. (finger_at p i).0) 0 160 k p few ∙ ap (λ i. (finger_at p i).0) (omega arith)) ∙ sym (finger_at p k).1;
    };
  }

  settled_nodes : (peers : List Peer) → (nodes : List Node) × AreSettled live r peers nodes
  settled_nodes [] = ([], settled_none)
  settled_nodes (p ∷ peers) = (let rest = settled_nodes peers in (empty_node (settled_state p) ∷ rest.0, settled_more (settled_state p) (is_settled p) rest.1))

-- where some number is taken there is a first peer
some_first : (n : ℕ) → (p : Peer) × IsAmong p (first_peers (suc n))
some_first zero = (peer_numbered 0, inl refl)
some_first (suc n) = by_test (is_known_id (first_peers (suc n)) (peer_numbered (suc n))) (some_first n)
  where
    by_test : (t : Bool) → (p : Peer) × IsAmong p (first_peers (suc n)) → (p : Peer) × IsAmong p (cond t (first_peers (suc n)) (first_peers (suc n) ++ peer_numbered (suc n) ∷ []))
    by_test true h = h
    by_test false h = (h.0, among-left h.0 (first_peers (suc n)) (peer_numbered (suc n) ∷ []) h.1)

among_with : (qs : List Peer) (p x : Peer) → IsAmong x qs ⊎ (p ≡ x) → IsAmong x (with_peer qs p)
among_with [] p x (inl h) = absurd h
among_with [] p x (inr e) = inl e
among_with (q ∷ qs) p x h = by_test (nat_lt (place p) (place q)) h (λ g. among_with qs p x g)
  where
    by_test : (t : Bool) → IsAmong x (q ∷ qs) ⊎ (p ≡ x) → (IsAmong x qs ⊎ (p ≡ x) → IsAmong x (with_peer qs p)) → IsAmong x (cond t (p ∷ q ∷ qs) (q ∷ with_peer qs p))
    by_test true (inl g) later = inr g
    by_test true (inr e) later = inl e
    by_test false (inl (inl e)) later = inl e
    by_test false (inl (inr g)) later = inr (later (inl g))
    by_test false (inr e) later = inr (later (inr e))

among_order : (qs ps : List Peer) (x : Peer) → IsAmong x qs ⊎ IsAmong x ps → IsAmong x (fold with_peer qs ps)
among_order qs [] x (inl h) = h
among_order qs [] x (inr h) = absurd h
among_order qs (p ∷ ps) x (inl h) = among_order (with_peer qs p) ps x (inl (among_with qs p x (inl h)))
among_order qs (p ∷ ps) x (inr (inl e)) = among_order (with_peer qs p) ps x (inl (among_with qs p x (inr e)))
among_order qs (p ∷ ps) x (inr (inr h)) = among_order (with_peer qs p) ps x (inr h)

pub ring_line : (w : World) (count r : ℕ) → (o : Outcome World) × RingLine w count r o
ring_line w count r = by_test (is_refused_ring w count r) refl (nat_le count 256) refl
  where
    some_nodes : (n : ℕ) → is_refused_ring w n r ≡ false → (nodes : List Node) × AreSettled (in_ring_order (first_peers n)) r (first_peers n) nodes
    some_nodes zero fine = cc (sym (or_right (is_some w.replicas || not (nat_le 1 r && nat_le r 8)) (zero == 0) refl) ∙ fine)
    some_nodes (suc n) fine = (let p = some_first n in settled_nodes (in_ring_order (first_peers (suc n))) r p.0 (among_order [] (first_peers (suc n)) p.0 (inr p.1)) (first_peers (suc n)))

    by_test : (b : Bool) → is_refused_ring w count r ≡ b → (c : Bool) → nat_le count 256 ≡ c → (o : Outcome World) × RingLine w count r o
    by_test true refuses c few = (Refuses, ring_refused refuses)
    by_test false fine false many = (Exceeds, ring_exceeds fine many)
    by_test false fine true few = (let nodes = some_nodes count fine in (_, ring_makes nodes.0 fine few nodes.1))

-- ---- a node joins

pub join_line : (w : World) (st : GhostState) → Invariant (w, st) → (number : ℕ) (o : Option ℕ) → w.replicas ≡ o → (out : Outcome World) × JoinLine hss_judged w number o out
join_line w st keeps number None is = (Refuses, join_before_ring)
join_line w st keeps number (Some r) is = by_test (is_known_id (map peer_of w.nodes) (peer_numbered number)) refl (nat_le 256 (length w.nodes)) refl (least (live_peers w)) refl
  where
    by_found : (through : Peer) → is_known_id (map peer_of w.nodes) (peer_numbered number) ≡ false → nat_le 256 (length w.nodes) ≡ false → least (live_peers w) ≡ Some through
        → (h : HasFound r (map peer_of w.nodes) w.met w (peer_numbered number).id (through ∷ [])) → (found : Option (List Peer)) → h.found ≡ found → (out : Outcome World) × JoinLine hss_judged w number (Some r) out
    by_found through new room is_least h None e = (_, join_fails r through h.found h.next new room is_least h.looks (subst FindsNobody (sym e) tt))
    by_found through new room is_least h (Some []) e = (_, join_fails r through h.found h.next new room is_least h.looks (subst FindsNobody (sym e) tt))
    by_found through new room is_least h (Some (p ∷ ps)) e = (_, join_joins r through p ps h.next new room is_least (subst (λ (o : Option (List Peer)). LooksUp hss_judged w (peer_numbered number).id (through ∷ []) o h.next) e h.looks))

    by_test : (known : Bool) → is_known_id (map peer_of w.nodes) (peer_numbered number) ≡ known → (full : Bool) → nat_le 256 (length w.nodes) ≡ full → (through : Option Peer) → least (live_peers w) ≡ through
        → (out : Outcome World) × JoinLine hss_judged w number (Some r) out
    by_test true known full room through is_least = (Refuses, join_known r known)
    by_test false new true full through is_least = (Exceeds, join_exceeds r new full)
    by_test false new false room None nobody = (_, join_alone r new room nobody)
    by_test false new false room (Some through) is_least =
        let among : Contains (map peer_of w.nodes) through = from_among through (map peer_of w.nodes) (peers_of_live w.nodes through (least_of (live_peers w) through is_least)) in
        let h = looks_up r (map peer_of w.nodes) w.met w (serves_so w st r keeps is) (peer_numbered number).id (through ∷ []) (among, tt) in
        by_found through new room is_least h h.found refl
