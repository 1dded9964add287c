-- Lines that stop nodes, and the round after them.
use Rattle.std.proofs.Common.{◌≡◌, inl, inr, ⊎_elim, ℕ, suc, ◌≤◌, Bool, true, false, cond, not, List, [], ◌∷◌, length, map, filter, refl, sym, ap, ◌∙◌, subst, Option, Some, arith}
use Rattle.std.specs.List.{AllByRecursion}
use Rattle.std.specs.Option.{option_map_or}
use Rattle.ring_model.specs.Members.{IsAmong}
use Rattle.ring_model.specs.Ring.{IsCoveredRing, IsSettledRing}
use Rattle.ring_model.proofs.Lists.{among_filter}
use Rattle.ring_model.proofs.Members.{ascending_filter}
use Rattle.ring_model.proofs.Settled.{few_stops_covered}
use Rattle.round_laws.proofs.Order.{same_lists}
use Rattle.ring_model.specs.Change.{AreFewStops}
use Rattle.dht_ids.specs.declared.peer.Peer.{Peer}
use Rattle.dht_ids.specs.Peers.{place}
use Rattle.dhash_model.specs.State.{State}
use Rattle.script_driver.specs.Run.{Outcome, Goes, Ends, Refuses, Exceeds}
use Rattle.world_model.specs.Nodes.{Node}
use Rattle.world_model.specs.World.{World, node_at, peer_of, with_node}
use Rattle.world_model.specs.Ring.{live_in_order, stop_line}
use Rattle.world_model.specs.RingOf.{lives_in}
use Rattle.round_laws.specs.RingOf.{AreApart, AreNodes, KnowsOnly, Stop, links_in}
use Rattle.round_laws.specs.RingOf.Stop.{none as nobody, one_more as stopped_more}
use Rattle.round_laws.specs.Laws.{RoundMendsSince, RoundMendsStopLines, StopLineStops, StopLinesLeaveCovered}
use Rattle.round_laws.proofs.Nodes.{mapped_kept}
use Rattle.round_laws.proofs.Standing.{from_knows, knows_of, links_ring, peer_or_not, to_knows}
use Rattle.round_laws.proofs.Owning.{AreDistinct, distinct_ascending, passes}
use Rattle.round_laws.proofs.Holding.{node_here, node_is, node_other}
use Rattle.round_laws.proofs.Rounding.{at_own, order_in, leaves_who_lives, order_ascending, in_order, round_mends_stops}

-- ---- what hangs on the nodes' parts of the ring alone

abbrev ring : Node → State
ring n = n.ring

all_rings : (P : State → Type 0) (nodes : List Node) → AllByRecursion (λ n. P n.ring) nodes → AllByRecursion P (map ring nodes)
all_rings P [] a = tt
all_rings P (n ∷ nodes) a = (a.0, all_rings P nodes a.1)

rings_all : (P : State → Type 0) (nodes : List Node) → AllByRecursion P (map ring nodes) → AllByRecursion (λ n. P n.ring) nodes
rings_all P [] a = tt
rings_all P (n ∷ nodes) a = (a.0, rings_all P nodes a.1)

peers_by : (nodes : List Node) → map peer_of nodes ≡ map (λ (s : State). s.me) (map ring nodes)
peers_by [] = refl
peers_by (n ∷ nodes) = ap (λ (l : List Peer). peer_of n ∷ l) (peers_by nodes)

all_knows : (made : List Peer) (nodes : List Node) → AllByRecursion (KnowsOnly made) nodes → AllByRecursion (λ n. knows_of made n.ring.links) nodes
all_knows made [] a = tt
all_knows made (n ∷ nodes) a = (to_knows made n a.0, all_knows made nodes a.1)

knows_all : (made : List Peer) (nodes : List Node) → AllByRecursion (λ n. knows_of made n.ring.links) nodes → AllByRecursion (KnowsOnly made) nodes
knows_all made [] a = tt
knows_all made (n ∷ nodes) a = (from_knows made n a.0, knows_all made nodes a.1)

same_rings : (r : ℕ) (w next : World) → map ring next.nodes ≡ map ring w.nodes → AreNodes r w → AreNodes r next
same_rings r w next e h =
    let made : map peer_of next.nodes ≡ map peer_of w.nodes = peers_by next.nodes ∙ ap (map (λ (s : State). s.me)) e ∙ sym (peers_by w.nodes) in
    record {
      apart = subst AreApart (sym made) h.apart;
      replicas = rings_all (λ s. s.replicas ≡ r) next.nodes (subst (AllByRecursion (λ s. s.replicas ≡ r)) (sym e) (all_rings (λ s. s.replicas ≡ r) w.nodes h.replicas));
      known = subst (λ l. AllByRecursion (KnowsOnly l) next.nodes) (sym made) (knows_all (map peer_of w.nodes) next.nodes
          (rings_all (λ s. knows_of (map peer_of w.nodes) s.links) next.nodes
          (subst (AllByRecursion (λ s. knows_of (map peer_of w.nodes) s.links)) (sym e) (all_rings (λ s. knows_of (map peer_of w.nodes) s.links) w.nodes (all_knows (map peer_of w.nodes) w.nodes h.known)))));
    }

-- ---- one line

-- the line goes on only at a live node, and stops it
stop_is : (w next : World) (n : Node) (output : List ℕ) → stop_line w (Some n) ≡ Goes next output → (n.is_live ≡ true) × (next ≡ with_node w (record n { is_live = false }))
stop_is w next n output e = by n.is_live refl e
  where
    after : World → Outcome World → World
    after v (Goes u text) = u
    after v Ends = v
    after v Refuses = v
    after v Exceeds = v

    by : (b : Bool) → n.is_live ≡ b → cond b (Goes (with_node w (record n { is_live = false })) []) Refuses ≡ Goes next output → (n.is_live ≡ true) × (next ≡ with_node w (record n { is_live = false }))
    by true l f = (l, sym (ap (after next) f))
    by false l f = absurd cc

pub stop_line_stops : StopLineStops
stop_line_stops r w next n output h i e =
    let s = stop_is w next n output e in
    let now : Node = record n { is_live = false } in
    let here : node_at w (peer_of n).id ≡ Some n = at_own w.nodes n h.apart i in
    let rings : map ring next.nodes ≡ map ring w.nodes = ap (λ (v : World). map ring v.nodes) s.1 ∙ mapped_kept ring w.nodes now n h.apart here refl in (
      same_rings r w next rings h,
      ap links_in s.1 ∙ links_ring w (peer_of n).id n now here refl,
      ap (λ (o : Option Node). option_map_or (λ m. m.is_live) o false) (node_is w (peer_of n) n here refl) ∙ s.0,
      ap (λ (v : World). lives_in v (peer_of n)) s.1 ∙ ap (λ (o : Option Node). option_map_or (λ m. m.is_live) o false) (node_here w (peer_of n) n now here refl),
      λ q d. ap (λ (v : World). lives_in v q) s.1 ∙ ap (λ (o : Option Node). option_map_or (λ m. m.is_live) o false) (node_other w (peer_of n) q n now here refl refl d),
      peers_by next.nodes ∙ ap (map (λ (s : State). s.me)) rings ∙ sym (peers_by w.nodes),
    )

-- ---- several

pub same_filter : (f g : Peer → Bool) (l : List Peer) → ((q : Peer) → IsAmong q l → g q ≡ f q) → filter g l ≡ filter f l
same_filter f g [] e = refl
same_filter f g (x ∷ l) e = (λ i. cond (e x (inl refl) i) (x ∷ same_filter f g l (λ q j. e q (inr j)) i) (same_filter f g l (λ q j. e q (inr j)) i))

-- where two tests differ at one place alone, one more passes at most
pub one_more_passes : (f g : Peer → Bool) (p : Peer) (l : List Peer) → AreDistinct l → ((q : Peer) → (q ≡ p → ⊥) → g q ≡ f q) → length (filter g l) ≤ suc (length (filter f l))
one_more_passes f g p [] d e = omega arith
one_more_passes f g p (x ∷ l) d e = ⊎_elim
    (λ s.
    let rest : length (filter g l) ≡ length (filter f l) = ap length (same_filter f g l (λ q i. e q (λ t. d.0 (subst (λ y. IsAmong y l) (t ∙ sym s) i)))) in
    here (g x) (f x) rest)
    (λ n. there (g x) (f x) (e x n) (one_more_passes f g p l d.1 e))
    (peer_or_not x p)
  where
    here : (a b : Bool) → length (filter g l) ≡ length (filter f l) → length (cond a (x ∷ filter g l) (filter g l)) ≤ suc (length (cond b (x ∷ filter f l) (filter f l)))
    here true true r = omega (arith, r)
    here true false r = omega (arith, r)
    here false true r = omega (arith, r)
    here false false r = omega (arith, r)

    there : (a b : Bool) → a ≡ b → length (filter g l) ≤ suc (length (filter f l)) → length (cond a (x ∷ filter g l) (filter g l)) ≤ suc (length (cond b (x ∷ filter f l) (filter f l)))
    there true true s r = omega (arith, r)
    there true false s r = absurd cc
    there false true s r = absurd cc
    there false false s r = r

-- after so many stops
record Stopped (r k : ℕ) (v w : World) : Type 0 where
  nodes : AreNodes r w
  links : links_in w ≡ links_in v
  lived : (m : Peer) → lives_in w m ≡ true → lives_in v m ≡ true
  few : length (filter (λ m. not (lives_in w m)) (live_in_order v)) ≤ k

none_stopped : (lives : Peer → Bool) (l : List Peer) → ((m : Peer) → IsAmong m l → lives m ≡ true) → length (filter (λ m. not (lives m)) l) ≡ 0
none_stopped lives [] h = refl
none_stopped lives (x ∷ l) h = ap (λ b. length (cond (not b) (x ∷ filter (λ m. not (lives m)) l) (filter (λ m. not (lives m)) l))) (h x (inl refl)) ∙ none_stopped lives l (λ m i. h m (inr i))

stopped : (r k : ℕ) (v w : World) → AreNodes r v → Stop v k w → Stopped r k v w
stopped r k v w h nobody = record { nodes = h; links = refl; lived = λ m l. l; few = let none = none_stopped (lives_in v) (live_in_order v) (λ m i. in_order r v m h i) in omega (arith, none) }
stopped r k v w h (stopped_more {mid = mid} {k = before} {output = output} n earlier i e) =
    let f = stopped r before v mid h earlier in
    let s = stop_line_stops r mid w n output f.nodes i e in
    record {
      nodes = s.0;
      links = s.1 ∙ f.links;
      lived = λ m l. f.lived m (⊎_elim (λ t. subst (λ x. lives_in mid x ≡ true) (sym t) s.2) (λ d. sym (s.4 m d) ∙ l) (peer_or_not m (peer_of n)));
      few =
          let more = one_more_passes (λ m. not (lives_in mid m)) (λ m. not (lives_in w m)) (peer_of n) (live_in_order v) (distinct_ascending (live_in_order v) (order_ascending r v h)) (λ q d. ap not (s.4 q d)) in
          omega (arith, more, f.few);
    }

-- ---- settled again

pub round_mends_since : RoundMendsSince
round_mends_since judged r v w next settled h links lived few size x quiet =
    let stops : AreFewStops place r 160 (live_in_order v) (lives_in w) (links_in w) = record {
      lived = lives_in v;
      settled = subst (λ l. IsSettledRing place r 160 (live_in_order v) (lives_in v) l) (sym links) settled;
      members = λ m l. settled.living m (lived m l);
      few = few;
    } in
    round_mends_stops judged r w next (live_in_order v) h stops size x quiet

pub round_mends_stop_lines : RoundMendsStopLines
round_mends_stop_lines judged r k v w next settled h size stops l x quiet =
    let s = stopped r k v w h stops in
    let few = s.few in (
      round_mends_since judged r v w next settled s.nodes s.links s.lived (omega (arith, few, l)) size x quiet,
      (leaves_who_lives judged r w next s.nodes x).0,
    )

pub stop_lines_leave_covered : StopLinesLeaveCovered
stop_lines_leave_covered r k v w settled h stops l =
    let s = stopped r k v w h stops in
    let few = s.few in
    let live : List Peer = filter (lives_in w) (live_in_order v) in
    let lived : (m : Peer) → IsAmong m live → lives_in w m ≡ true = λ m i. passes (lives_in w) m (live_in_order v) i in
    let all : (m : Peer) → lives_in w m ≡ true → IsAmong m live = λ m t. among_filter (lives_in w) m (live_in_order v) (settled.living m (s.lived m t)) t in
    let same : live ≡ live_in_order w = same_lists live (live_in_order w) (ascending_filter place (lives_in w) (live_in_order v) settled.ascending) (order_ascending r w s.nodes) (λ m i. order_in r w m s.nodes (lived m i)) (λ m i. all m (in_order r w m s.nodes i)) in
    let stops_are : AreFewStops place r 160 (live_in_order v) (lives_in w) (links_in w) = record {
      lived = lives_in v;
      settled = subst (λ x. IsSettledRing place r 160 (live_in_order v) (lives_in v) x) (sym s.links) settled;
      members = λ m t. settled.living m (s.lived m t);
      few = omega (arith, few, l);
    } in
    (subst (λ x. IsCoveredRing place r x (lives_in w) (links_in w)) same (few_stops_covered place r 160 (live_in_order v) (lives_in w) (links_in w) stops_are), s.nodes)
