-- The line at which a node joins.
use Rattle.std.proofs.Common.{◌≡◌, inl, inr, ⊎_elim, ℕ, zero, suc, ◌*◌, ◌<◌, ◌≤◌, Bool, true, false, cond, not, nat_lt, nat_eq, List, [], ◌∷◌, ◌++◌, length, map, filter, fold, get_or, take, replicate, refl, sym, ap, ◌∙◌, subst, Option, Some, None, IfSome, arith, le_refl, take-take}
use Rattle.std.specs.List.{AllByRecursion}
use Rattle.std.specs.Option.{option_map_or}
use Rattle.std.proofs.lemmas.Bool.{cases_lt, eqb-true, eq-eqb, lt-ltb, ltb-true}
use Rattle.ivy_base.specs.declared.key.Key.{Key}
use Rattle.ring_model.specs.Members.{IsAmong, following, is_other}
use Rattle.ring_model.specs.Ring.{Links, IsSettledRing}
use Rattle.ring_model.specs.Change.{IsJoin}
use Rattle.ring_model.proofs.Lists.{all-among, all-both, all_from, all_weaker, among-cases, among-left, among-right, among_filter, among_filtered, among_take, filter_all, none_some, some_same, take_first}
use Rattle.ring_model.proofs.Members.{among_live, ascending_filter}
use Rattle.ring_model.proofs.Settled.{join_finds}
use Rattle.dht_ids.specs.Asked.{routes}
use Rattle.dht_ids.specs.NodeIds.{node_id_of}
use Rattle.dht_ids.specs.declared.judge.Judged.{Judged}
use Rattle.dht_ids.specs.declared.peer.Peer.{Peer}
use Rattle.dht_ids.specs.Peers.{place}
use Rattle.dhash_model.specs.State.{alone_node}
use Rattle.script_driver.specs.Run.{Outcome, Goes, Ends, Refuses, Exceeds}
use Rattle.world_model.specs.Nodes.{Node}
use Rattle.world_model.specs.World.{World, live_peers, node_at, peer_of}
use Rattle.world_model.specs.Ring.{FindsNobody, JoinLine, LooksUp, empty_node, failed_join_text, in_ring_order, is_known_id, joined_node, least, live_in_order, peer_numbered, with_new_node}
use Rattle.world_model.specs.Ring.JoinLine.{before_ring, known as is_met, exceeds, alone, joins, fails}
use Rattle.world_model.specs.RingOf.{lives_in}
use Rattle.round_laws.specs.Laws.{JoinLineJoins}
use Rattle.round_laws.specs.RingOf.{AreApart, AreNamed, AreNodes, IsSettledIn, KnowsOnly, LosesNone, links_in}
use Rattle.round_laws.proofs.Nodes.{at, at_here, at_later, links_at, lives_by, lives_shape, made_by, made_shape, order_by, order_shape, same_or_not, shape}
use Rattle.round_laws.proofs.Order.{among_fold, lives_made, order_lives, same_lists}
use Rattle.round_laws.proofs.Standing.{IsBase, lives_are, node_made, stands}
use Rattle.round_laws.proofs.Ringing.{IsNamed, apart_with, is_known, one_id, within_circle}
use Rattle.round_laws.proofs.Owning.{passes}
use Rattle.round_laws.proofs.Rounding.{at_own, base_of, in_order, nodes_of, order_ascending, order_in, within_of}
use Rattle.round_laws.proofs.Settling.{length_made, settled_by}
use Rattle.round_laws.proofs.Fixing.{Looked, look_up}
use Rattle.round_laws.proofs.Renewing.{all_take}
use Rattle.round_laws.proofs.Holding.{node_is}

-- ---- one node more

all_replicated : (P : Peer → Type 0) (p : Peer) (n : ℕ) → P p → AllByRecursion P (replicate n p)
all_replicated P p zero h = tt
all_replicated P p (suc n) h = (h, all_replicated P p n h)

length_replicated : (p : Peer) (n : ℕ) → length (replicate n p) ≡ n
length_replicated p zero = refl
length_replicated p (suc n) = ap suc (length_replicated p n)

map_more : {Y : Type 0} (f : Node → Y) (nodes : List Node) (n : Node) → map f (nodes ++ n ∷ []) ≡ map f nodes ++ f n ∷ []
map_more f [] n = refl
map_more {Y = Y} f (m ∷ nodes) n = ap (λ (l : List Y). f m ∷ l) (map_more f nodes n)

-- the new node is after the others
at_more : (nodes : List Node) (n m : Node) (id : Key) → at nodes id ≡ Some m → at (nodes ++ n ∷ []) id ≡ Some m
at_more [] n m id e = absurd (none_some m e)
at_more (k ∷ nodes) n m id e = ⊎_elim
    (λ s. at_here k (nodes ++ n ∷ []) id s ∙ sym (at_here k nodes id s) ∙ e)
    (λ d. at_later k (nodes ++ n ∷ []) id d ∙ at_more nodes n m id (sym (at_later k nodes id d) ∙ e))
    (same_or_not (peer_of k).id id)

-- a world that one node was added to, whose place was free
record Added (r : ℕ) (w next : World) (x : Peer) (n : Node) : Type 0 where
  nodes : AreNodes r w
  named : AreNamed (map peer_of w.nodes)
  is : next.nodes ≡ w.nodes ++ n ∷ []
  me : peer_of n ≡ x
  live : n.is_live ≡ true
  replicas : n.ring.replicas ≡ r
  free : (q : Peer) → IsAmong q (map peer_of w.nodes) → place q ≡ place x → ⊥
  name : IsNamed x
  knows : KnowsOnly (map peer_of w.nodes ++ x ∷ []) n

module _ (r : ℕ) (w next : World) (x : Peer) (n : Node) (a : Added r w next x n) where
  peers : map peer_of next.nodes ≡ map peer_of w.nodes ++ x ∷ []
  peers = ap (map peer_of) a.is ∙ map_more peer_of w.nodes n ∙ ap (λ (p : Peer). map peer_of w.nodes ++ p ∷ []) a.me

  wider : (m : Node) → KnowsOnly (map peer_of w.nodes) m → KnowsOnly (map peer_of w.nodes ++ x ∷ []) m
  wider m k = record {
    list = all_weaker (λ q. IsAmong q (map peer_of w.nodes)) (λ q. IsAmong q (map peer_of w.nodes ++ x ∷ [])) m.ring.links.list (λ q i. among-left q (map peer_of w.nodes) (x ∷ []) i) k.list;
    fingers = all_weaker (λ q. IsAmong q (map peer_of w.nodes)) (λ q. IsAmong q (map peer_of w.nodes ++ x ∷ [])) m.ring.links.fingers (λ q i. among-left q (map peer_of w.nodes) (x ∷ []) i) k.fingers;
    before = some m.ring.links.before k.before;
  }
    where
      some : (o : Option Peer) → IfSome o (λ q. IsAmong q (map peer_of w.nodes)) → IfSome o (λ q. IsAmong q (map peer_of w.nodes ++ x ∷ []))
      some None h = tt
      some (Some q) h = among-left q (map peer_of w.nodes) (x ∷ []) h

  nodes_then : AreNodes r next
  nodes_then = record {
    apart = subst AreApart (sym peers) (apart_with (map peer_of w.nodes) x a.nodes.apart a.free);
    replicas = subst (AllByRecursion (λ m. m.ring.replicas ≡ r)) (sym a.is) (all-both (λ (m : Node). m.ring.replicas ≡ r) w.nodes (n ∷ []) a.nodes.replicas (a.replicas, tt));
    known = subst (λ l. AllByRecursion (KnowsOnly l) next.nodes) (sym peers) (subst (AllByRecursion (KnowsOnly (map peer_of w.nodes ++ x ∷ []))) (sym a.is)
        (all-both (KnowsOnly (map peer_of w.nodes ++ x ∷ [])) w.nodes (n ∷ []) (all_weaker (KnowsOnly (map peer_of w.nodes)) (KnowsOnly (map peer_of w.nodes ++ x ∷ [])) w.nodes wider a.nodes.known) (a.knows, tt)));
  }

  named_then : AreNamed (map peer_of next.nodes)
  named_then = subst AreNamed (sym peers) (all-both (λ (p : Peer). p.id ≡ node_id_of p.number) (map peer_of w.nodes) (x ∷ []) a.named (a.name, tt))

  old_at : (p : Peer) (m : Node) → node_at w p.id ≡ Some m → node_at next p.id ≡ Some m
  old_at p m e = ap (λ (l : List Node). at l p.id) a.is ∙ at_more w.nodes n m p.id e

  new_at : node_at next x.id ≡ Some n
  new_at = subst (λ (p : Peer). at next.nodes p.id ≡ Some n) a.me (at_own next.nodes n nodes_then.apart (subst (IsAmong n) (sym a.is) (among-right n w.nodes (n ∷ []) (inl refl))))

  -- one of the old members
  record IsOld (p : Peer) : Type 0 where
    node : Node
    at : node_at w p.id ≡ Some node
    me : peer_of node ≡ p

  old : (p : Peer) → IsAmong p (map peer_of w.nodes) → IsOld p
  old p i = let m = found w.nodes i in record { node = m.0; at = subst (λ (q : Peer). at w.nodes q.id ≡ Some m.0) m.2 (at_own w.nodes m.0 a.nodes.apart m.1); me = m.2 }
    where
      found : (l : List Node) → IsAmong p (map peer_of l) → (m : Node) × IsAmong m l × (peer_of m ≡ p)
      found [] h = elim h [ ]
      found (m ∷ l) (inl e) = (m, inl refl, e)
      found (m ∷ l) (inr h) = let t = found l h in (t.0, inr t.1, t.2)

  live_of : (v : World) (p : Peer) (m : Node) → node_at v p.id ≡ Some m → peer_of m ≡ p → lives_in v p ≡ m.is_live
  live_of v p m e s = ap (λ (o : Option Node). option_map_or (λ k. k.is_live) o false) (node_is v p m e s)

  old_links : (p : Peer) → IsAmong p (map peer_of w.nodes) → links_in next p ≡ links_in w p
  old_links p i = let o = old p i in links_at next p o.node (old_at p o.node o.at) o.me ∙ sym (links_at w p o.node o.at o.me)

  old_lives : (p : Peer) → IsAmong p (map peer_of w.nodes) → lives_in next p ≡ lives_in w p
  old_lives p i = let o = old p i in live_of next p o.node (old_at p o.node o.at) o.me ∙ sym (live_of w p o.node o.at o.me)

  made_if : (v : World) (p : Peer) → lives_in v p ≡ true → IsAmong p (map peer_of v.nodes)
  made_if v p l = subst (IsAmong p) (sym (made_shape v.nodes)) (lives_made (map shape v.nodes) p (sym (λ i. lives_shape v i p) ∙ l))

  elsewhere : (m : Peer) → (place m ≡ place x → ⊥) → is_other place x m ≡ true
  elsewhere m d = by (nat_eq (place m) (place x)) refl
    where
      by : (t : Bool) → nat_eq (place m) (place x) ≡ t → not (nat_eq (place m) (place x)) ≡ true
      by true e = absurd (d (eqb-true (place m) (place x) e))
      by false e = ap not e

  away : (m : Peer) → is_other place x m ≡ true → place m ≡ place x → ⊥
  away m t s = by (nat_eq (place m) (place x)) (eq-eqb (place m) (place x) s) t
    where
      by : (u : Bool) → u ≡ true → not u ≡ true → ⊥
      by true e f = cc
      by false e f = cc

  others_are : filter (is_other place x) (live_in_order next) ≡ live_in_order w
  others_are = same_lists (filter (is_other place x) (live_in_order next)) (live_in_order w) (ascending_filter place (is_other place x) (live_in_order next) (order_ascending r next nodes_then)) (order_ascending r w a.nodes)
      (λ m i.
      let l = in_order r next m nodes_then (among_filtered (is_other place x) m (live_in_order next) i) in
      let d = away m (passes (is_other place x) m (live_in_order next) i) in
      ⊎_elim
      (λ j. order_in r w m a.nodes (sym (old_lives m j) ∙ l))
      (λ j. ⊎_elim (λ e. absurd (d (ap place (sym e)))) (λ n. elim n [ ]) j)
      (among-cases m (map peer_of w.nodes) (x ∷ []) (subst (IsAmong m) peers (made_if next m l))))
      (λ m i.
      let l = in_order r w m a.nodes i in
      let j = made_if w m l in
      among_filter (is_other place x) m (live_in_order next) (order_in r next m nodes_then (old_lives m j ∙ l)) (elsewhere m (a.free m j)))

  joined : IsSettledIn w r → n.ring.links.list ≡ take (2 * r) (following place (live_in_order next) x) → n.ring.links.fingers ≡ replicate 160 x → IsJoin place r 160 (live_in_order next) (lives_in next) x (links_in next)
  joined s list fingers =
      let new_links : links_in next x ≡ n.ring.links = links_at next x n new_at a.me in
      let member : IsAmong x (live_in_order next) = order_in r next x nodes_then (live_of next x n new_at a.me ∙ a.live) in
      let old_of : (m : Peer) → IsAmong m (live_in_order w) → links_in next m ≡ links_in w m = λ m i. old_links m (made_if w m (in_order r w m a.nodes i)) in
      let before : IsSettledRing place r 160 (live_in_order w) (lives_in w) (links_in next) = record {
        positive = s.positive;
        ascending = s.ascending;
        within = s.within;
        living = s.living;
        lives_all = s.lives_all;
        lists = λ m i. (λ j. (old_of m i j).list) ∙ s.lists m i;
        sized = λ m i. (λ j. length (old_of m i j).fingers) ∙ s.sized m i;
        fingers = λ m k i l. (λ j. Some (get_or (old_of m i j).fingers k m)) ∙ s.fingers m k i l;
      } in
      record {
        lived = lives_in w;
        settled = subst (λ l. IsSettledRing place r 160 l (lives_in w) (links_in next)) (sym others_are) before;
        ascending = order_ascending r next nodes_then;
        living = λ m l. order_in r next m nodes_then l;
        lives_all = λ m i. in_order r next m nodes_then i;
        member = member;
        within = within_circle x a.name;
        list = (λ i. (new_links i).list) ∙ list;
        sized = (λ i. length (new_links i).fingers) ∙ ap length fingers ∙ length_replicated x 160;
        fingers = λ m i. all-among (λ q. IsAmong q (live_in_order next)) m (links_in next x).fingers
            (subst (AllByRecursion (λ q. IsAmong q (live_in_order next))) (sym ((λ j. (new_links j).fingers) ∙ fingers)) (all_replicated (λ q. IsAmong q (live_in_order next)) x 160 member)) i;
      }

  -- those after it stand elsewhere
  behind : (m : Peer) → IsAmong m (following place (live_in_order next) x) → place m ≡ place x → ⊥
  behind m i s = ⊎_elim
      (λ j. let l = ltb-true (place x) (place m) (passes (λ y. nat_lt (place x) (place y)) m (live_in_order next) j) in absurd (omega (arith, l, s)))
      (λ j. let l = ltb-true (place m) (place x) (passes (λ y. nat_lt (place y) (place x)) m (live_in_order next) j) in absurd (omega (arith, l, s)))
      (among-cases m (filter (λ y. nat_lt (place x) (place y)) (live_in_order next)) (filter (λ y. nat_lt (place y) (place x)) (live_in_order next)) i)

  -- what the new node adopts of the members after it
  adopts : take (2 * r) (filter (is_other place x) (take (2 * r) (following place (live_in_order next) x))) ≡ take (2 * r) (following place (live_in_order next) x)
  adopts =
      let all : List Peer = take (2 * r) (following place (live_in_order next) x) in
      ap (take (2 * r)) (filter_all (is_other place x) all (all_from (λ m. is_other place x m ≡ true) all (λ m i. elsewhere m (behind m (among_take (2 * r) m (following place (live_in_order next) x) i)))))
      ∙ take-take (2 * r) (2 * r) (following place (live_in_order next) x) (le_refl (2 * r))

  -- nobody lived before
  nobody_behind : live_in_order w ≡ [] → following place (live_in_order next) x ≡ []
  nobody_behind e = empty (following place (live_in_order next) x) (λ m i.
      subst (IsAmong m) (others_are ∙ e) (among_filter (is_other place x) m (live_in_order next) (among_live place (live_in_order next) x m i) (elsewhere m (behind m i))))
    where
      empty : (l : List Peer) → ((m : Peer) → IsAmong m l → ⊥) → l ≡ []
      empty [] h = refl
      empty (m ∷ l) h = absurd (h m (inl refl))

-- ---- the line

-- the least of some is one of them
least_among : (ps : List Peer) (t : Peer) → least ps ≡ Some t → IsAmong t ps
least_among [] t e = absurd (none_some t e)
least_among (p ∷ ps) t e = subst (λ x. IsAmong x (p ∷ ps)) (some_same (fold smaller p ps) t e) (among_all p ps)
  where
    smaller : Peer → Peer → Peer
    smaller q r = cond (nat_lt r.number q.number) r q

    among_all : (q : Peer) (l : List Peer) → IsAmong (fold smaller q l) (q ∷ l)
    among_all q [] = inl refl
    among_all q (y ∷ l) = by (nat_lt y.number q.number) (λ z. among_all z l)
      where
        by : (t : Bool) → ((z : Peer) → IsAmong (fold smaller z l) (z ∷ l)) → IsAmong (fold smaller (cond t y q) l) (q ∷ y ∷ l)
        by true f = inr (f y)
        by false f = ⊎_elim (λ e. inl e) (λ i. inr (inr i)) (f q)

none_least : (ps : List Peer) → least ps ≡ None → ps ≡ []
none_least [] e = refl
none_least (p ∷ ps) e = absurd cc

goes_to : Outcome World → List Node
goes_to (Goes v text) = v.nodes
goes_to Ends = []
goes_to Refuses = []
goes_to Exceeds = []

lost_to : Outcome World → ℕ
lost_to (Goes v text) = v.asked
lost_to Ends = 0
lost_to Refuses = 0
lost_to Exceeds = 0

-- the place of a peer whose identifier isn't known is free
is_free : (w : World) (x : Peer) → AreNamed (map peer_of w.nodes) → IsNamed x → is_known_id (map peer_of w.nodes) x ≡ false → (q : Peer) → IsAmong q (map peer_of w.nodes) → place q ≡ place x → ⊥
is_free w x named name unknown q i s = is_known (map peer_of w.nodes) x q unknown i (one_id q x (all-among (λ (p : Peer). p.id ≡ node_id_of p.number) q (map peer_of w.nodes) named i) name s)

pub record HasJoined (r number : ℕ) (next : World) : Type 0 where
  pub join : IsJoin place r 160 (live_in_order next) (lives_in next) (peer_numbered number) (links_in next)
  pub nodes : AreNodes r next
  pub named : AreNamed (map peer_of next.nodes)

join_alone : (r number : ℕ) (w next : World) → AreNodes r w → AreNamed (map peer_of w.nodes) → IsSettledIn w r → is_known_id (map peer_of w.nodes) (peer_numbered number) ≡ false → least (live_peers w) ≡ None
    → next.nodes ≡ w.nodes ++ empty_node (alone_node (peer_numbered number) r) ∷ [] → HasJoined r number next
join_alone r number w next h named settled unknown nobody is =
    let x = peer_numbered number in
    let n : Node = empty_node (alone_node x r) in
    let a : Added r w next x n = record {
      nodes = h;
      named = named;
      is = is;
      me = refl;
      live = refl;
      replicas = refl;
      free = is_free w x named refl unknown;
      name = refl;
      knows = record { list = tt; fingers = all_replicated (λ q. IsAmong q (map peer_of w.nodes ++ x ∷ [])) x 160 (among-right x (map peer_of w.nodes) (x ∷ []) (inl refl)); before = tt };
    } in
    let none = nobody_behind r w next x n a (ap in_ring_order (none_least (live_peers w) nobody)) in
    record {
      join = joined r w next x n a settled (sym (ap (take (2 * r)) none ∙ take_nothing (2 * r))) refl;
      nodes = nodes_then r w next x n a;
      named = named_then r w next x n a;
    }
  where
    take_nothing : (k : ℕ) → take {A = Peer} k [] ≡ []
    take_nothing zero = refl
    take_nothing (suc k) = refl

-- the look-up of a node that joins through a live one
module _ (judged : Key → List ℕ → Option Judged) (r number : ℕ) (w mid : World) (h : AreNodes r w) (named : AreNamed (map peer_of w.nodes)) (few : length w.nodes ≤ 512) (settled : IsSettledIn w r)
    (unknown : is_known_id (map peer_of w.nodes) (peer_numbered number) ≡ false) (through : Peer) (is_least : least (live_peers w) ≡ Some through) (found : Option (List Peer)) (looks : LooksUp judged w (peer_numbered number).id (through ∷ []) found mid)
    (quiet : LosesNone w mid) where
  is_base : IsBase r (map shape w.nodes) w.lost w.asked mid.asked
  is_base = base_of r w mid.asked h quiet

  lives_through : lives_by (map shape w.nodes) through ≡ true
  lives_through = order_lives (map shape w.nodes) through is_base.apart (subst (IsAmong through) (order_shape w) (among_fold through [] (live_peers w) (inr (least_among (live_peers w) through is_least))))

  looked : Looked judged r (map shape w.nodes) w.lost w.asked mid.asked is_base (peer_numbered number).id (routes looks.looks) found w mid
  looked = look_up judged r (map shape w.nodes) w.lost w.asked mid.asked is_base (peer_numbered number).id through found w mid (within_of r w h) (lives_made (map shape w.nodes) through lives_through) looks

  mid_nodes : AreNodes r mid
  mid_nodes = nodes_of r (map shape w.nodes) w.lost w.asked mid.asked mid is_base looked.within

  mid_peers : map peer_of mid.nodes ≡ map peer_of w.nodes
  mid_peers = made_shape mid.nodes ∙ ap made_by looked.within.shapes ∙ sym (made_shape w.nodes)

  w_lives : lives_in w ≡ lives_by (map shape w.nodes)
  w_lives = lives_are judged r (map shape w.nodes) w.lost w.asked mid.asked is_base w (within_of r w h)

  mid_lives : lives_in mid ≡ lives_in w
  mid_lives = lives_are judged r (map shape w.nodes) w.lost w.asked mid.asked is_base mid looked.within ∙ sym w_lives

  mid_order : live_in_order mid ≡ live_in_order w
  mid_order = order_shape mid ∙ ap order_by looked.within.shapes ∙ sym (order_shape w)

  mid_settled : IsSettledIn mid r
  mid_settled = settled_by r w (live_in_order mid) (lives_in mid) (links_in mid) (sym mid_order) (sym mid_lives) (sym looked.links) settled

  mid_free : (q : Peer) → IsAmong q (map peer_of mid.nodes) → place q ≡ place (peer_numbered number) → ⊥
  mid_free q i s = is_free w (peer_numbered number) named refl unknown q (subst (IsAmong q) mid_peers i) s

  finds : (next : World) (n : Node) → Added r mid next (peer_numbered number) n → found ≡ Some (take (2 * r) (following place (live_in_order next) (peer_numbered number)))
  finds next n a =
      let others = others_are r mid next (peer_numbered number) n a ∙ mid_order in
      join_finds place r 160 (live_in_order next) (lives_by (map shape w.nodes)) (peer_numbered number) (links_in w) (through ∷ []) (made_by (map shape w.nodes)) (routes looks.looks) found
      (settled_by r w (filter (is_other place (peer_numbered number)) (live_in_order next)) (lives_by (map shape w.nodes)) (links_in w) (sym others) w_lives refl settled)
      (record {
        few = few_made;
        first = λ m i. ⊎_elim (λ e. subst (λ x. IsAmong x (made_by (map shape w.nodes))) e (lives_made (map shape w.nodes) through lives_through)) (λ n. elim n [ ]) i;
        linked = λ p m i j. known p m (subst (IsAmong p) others i) j;
      })
      (looked.fates (le_refl mid.asked)) through lives_through (inl refl) looks.lookup
    where
      few_made : length (made_by (map shape w.nodes)) ≤ 512
      few_made = let size = length_made w.nodes in omega (arith, size, few)

      known : (p m : Peer) → IsAmong p (live_in_order w) → IsAmong m ((links_in w p).list ++ (links_in w p).fingers) → IsAmong m (made_by (map shape w.nodes))
      known p m i j =
          let made = lives_made (map shape w.nodes) p (order_lives (map shape w.nodes) p is_base.apart (subst (IsAmong p) (order_shape w) i)) in
          let node = node_made judged r (map shape w.nodes) w.lost w.asked mid.asked is_base w p (within_of r w h) made in
          let s = stands judged r (map shape w.nodes) w.lost w.asked mid.asked is_base w p node.0 (within_of r w h) made node.1 in
          let k = (within_of r w h).known p.id node.0 node.1 in
          all-among (λ x. IsAmong x (made_by (map shape w.nodes))) m ((links_in w p).list ++ (links_in w p).fingers)
          (subst (λ (x : Links Peer). AllByRecursion (λ y. IsAmong y (made_by (map shape w.nodes))) (x.list ++ x.fingers)) (sym s.links) (all-both (λ x. IsAmong x (made_by (map shape w.nodes))) node.0.ring.links.list node.0.ring.links.fingers k.list k.fingers)) j

  -- the new node, whatever list of made peers was found
  added : (next : World) (l : List Peer) → AllByRecursion (λ q. IsAmong q (made_by (map shape w.nodes))) l → next.nodes ≡ mid.nodes ++ joined_node (peer_numbered number) r l ∷ [] → Added r mid next (peer_numbered number) (joined_node (peer_numbered number) r l)
  added next l all is = record {
    nodes = mid_nodes;
    named = subst AreNamed (sym mid_peers) named;
    is = is;
    me = refl;
    live = refl;
    replicas = refl;
    free = mid_free;
    name = refl;
    knows = record {
      list = all_take (λ q. IsAmong q (map peer_of mid.nodes ++ peer_numbered number ∷ [])) (2 * r) (filter (is_other place (peer_numbered number)) l) (all_from (λ q. IsAmong q (map peer_of mid.nodes ++ peer_numbered number ∷ [])) (filter (is_other place (peer_numbered number)) l)
          (λ m i. among-left m (map peer_of mid.nodes) (peer_numbered number ∷ []) (subst (IsAmong m) (sym (mid_peers ∙ made_shape w.nodes)) (all-among (λ q. IsAmong q (made_by (map shape w.nodes))) m l all (among_filtered (is_other place (peer_numbered number)) m l i)))));
      fingers = all_replicated (λ q. IsAmong q (map peer_of mid.nodes ++ peer_numbered number ∷ [])) (peer_numbered number) 160 (among-right (peer_numbered number) (map peer_of mid.nodes) (peer_numbered number ∷ []) (inl refl));
      before = tt;
    };
  }

  join_found : (next : World) (l : List Peer) → found ≡ Some l → next.nodes ≡ mid.nodes ++ joined_node (peer_numbered number) r l ∷ [] → HasJoined r number next
  join_found next l e is =
      let all : AllByRecursion (λ q. IsAmong q (made_by (map shape w.nodes))) l = subst (λ (o : Option (List Peer)). IfSome o (λ x. AllByRecursion (λ q. IsAmong q (made_by (map shape w.nodes))) x)) e looked.made in
      let a = added next l all is in
      let x = peer_numbered number in
      let right : l ≡ take (2 * r) (following place (live_in_order next) x) = some_same l (take (2 * r) (following place (live_in_order next) x)) (sym e ∙ finds next (joined_node x r l) a) in
      record {
        join = joined r mid next x (joined_node x r l) a mid_settled (ap (λ (y : List Peer). take (2 * r) (filter (is_other place x) y)) right ∙ adopts r mid next x (joined_node x r l) a) refl;
        nodes = nodes_then r mid next x (joined_node x r l) a;
        named = named_then r mid next x (joined_node x r l) a;
      }

  -- it finds somebody
  not_nobody : FindsNobody found → ⊥
  not_nobody nobody =
      let x = peer_numbered number in
      let next : World = with_new_node mid (joined_node x r []) in
      let a = added next [] tt refl in
      let e = finds next (joined_node x r []) a in
      let behind : IsAmong through (following place (live_in_order next) x) = one_behind next (joined_node x r []) a in
      some_found (following place (live_in_order next) x) behind e nobody
    where
      one_behind : (next : World) (n : Node) → Added r mid next (peer_numbered number) n → IsAmong through (following place (live_in_order next) (peer_numbered number))
      one_behind next n a =
          let x = peer_numbered number in
          let old : IsAmong through (live_in_order mid) = subst (IsAmong through) (sym mid_order) (among_fold through [] (live_peers w) (inr (least_among (live_peers w) through is_least))) in
          let is_in : IsAmong through (live_in_order next) = among_filtered (is_other place x) through (live_in_order next) (subst (IsAmong through) (sym (others_are r mid next x n a)) old) in
          let away : place through ≡ place x → ⊥ = mid_free through (made_if r mid next x n a mid through (in_order r mid through mid_nodes old)) in
          ⊎_elim
          (λ l. among-right through (filter (λ y. nat_lt (place x) (place y)) (live_in_order next)) (filter (λ y. nat_lt (place y) (place x)) (live_in_order next)) (among_filter (λ y. nat_lt (place y) (place x)) through (live_in_order next) is_in (lt-ltb (place through) (place x) l)))
          (λ l. among-left through (filter (λ y. nat_lt (place x) (place y)) (live_in_order next)) (filter (λ y. nat_lt (place y) (place x)) (live_in_order next)) (among_filter (λ y. nat_lt (place x) (place y)) through (live_in_order next) is_in (lt-ltb (place x) (place through) (above (place x) (place through) l away))))
          (cases_lt (place through) (place x))
        where
          above : (m n : ℕ) → m ≤ n → (n ≡ m → ⊥) → m < n
          above m n l d = omega (arith, l, d)

      some_found : (all : List Peer) → IsAmong through all → found ≡ Some (take (2 * r) all) → FindsNobody found → ⊥
      some_found [] i e nobody = elim i [ ]
      some_found (p ∷ all) i e nobody = subst (λ (o : Option (List Peer)). FindsNobody o → ⊥) (sym (e ∙ ap (λ l. Some l) (take_first (2 * r) p all (positive settled.positive)))) (λ n. n) nobody
        where
          positive : 1 ≤ r → 0 < 2 * r
          positive l = omega (arith, l)

-- where a line goes on, it goes to that world
same_world : (v next : World) (text output : List ℕ) → Goes v text ≡ Goes next output → v ≡ next
same_world v next text output e = ap after e
  where
    after : Outcome World → World
    after (Goes u words) = u
    after Ends = v
    after Refuses = v
    after Exceeds = v

joins_by : (judged : Key → List ℕ → Option Judged) (r number : ℕ) (w next : World) (output : List ℕ) → AreNodes r w → AreNamed (map peer_of w.nodes) → length w.nodes ≤ 512 → IsSettledIn w r → LosesNone w next → (o : Option ℕ) (out : Outcome World)
    → JoinLine judged w number o out → o ≡ Some r → out ≡ Goes next output → HasJoined r number next
joins_by judged r number w next output h named few settled quiet o out before_ring s e = absurd (none_some r s)
joins_by judged r number w next output h named few settled quiet o out (is_met k t) s e = absurd cc
joins_by judged r number w next output h named few settled quiet o out (exceeds k t f) s e = absurd cc
joins_by judged r number w next output h named few settled quiet o out (alone k t f none) s e =
    let same : k ≡ r = some_same k r s in
    let is : with_new_node w (empty_node (alone_node (peer_numbered number) k)) ≡ next = same_world (with_new_node w (empty_node (alone_node (peer_numbered number) k))) next [] output e in
    join_alone r number w next h named settled t none (ap (λ (v : World). v.nodes) (sym is) ∙ ap (λ x. w.nodes ++ empty_node (alone_node (peer_numbered number) x) ∷ []) same)
joins_by judged r number w next output h named few settled quiet o out (joins k through p ps mid t f l looks) s e =
    let same : k ≡ r = some_same k r s in
    let n : Node = joined_node (peer_numbered number) k (p ∷ ps) in
    let is : with_new_node mid n ≡ next = same_world (with_new_node mid n) next [] output e in
    let calm : LosesNone w mid = subst (LosesNone w) (sym is) quiet in
    join_found judged r number w mid h named few settled t through l (Some (p ∷ ps)) looks calm next (p ∷ ps) refl (ap (λ (v : World). v.nodes) (sym is) ∙ ap (λ x. mid.nodes ++ joined_node (peer_numbered number) x (p ∷ ps) ∷ []) same)
joins_by judged r number w next output h named few settled quiet o out (fails k through found last t f l looks nobody) s e =
    let calm : LosesNone w last = subst (LosesNone w) (sym (same_world last next (failed_join_text number) output e)) quiet in
    absurd (not_nobody judged r number w last h named few settled t through l found looks calm nobody)

pub join_line_joins : JoinLineJoins
join_line_joins judged r number w next output h named few settled line quiet = let j = joins_by judged r number w next output h named few settled quiet (Some r) (Goes next output) line refl refl in (j.join, j.nodes, j.named)
