-- The line that makes a ring.
use Rattle.std.proofs.Common.{◌≡◌, ◌⊎◌, inl, inr, ⊎_elim, ℕ, zero, suc, ◌+◌, ◌*◌, ◌^◌, ◌<◌, ◌≤◌, Bool, true, false, cond, not, ◌&&◌, ◌||◌, ◌==◌, is_some, nat_eq, nat_le, List, [], ◌∷◌, ◌++◌, length, map, filter, get_or, take, refl, sym, ap, ◌∙◌, subst, Option, Some, None, IfSome, arith, mul-le-mul_right, suc-mul, decimal, codes}
use Rattle.std.specs.List.{AllByRecursion, last_or}
use Rattle.std.specs.Ordering.{eq_by_cmp}
use Rattle.std.specs.List.Sorted.{IsStrictlySortedBy}
use Rattle.std.specs.Map.{keys_of}
use Rattle.std.specs.FinMap.Entries.{find as value_at}
use Rattle.std.proofs.lemmas.Bool.{leb-true}
use Rattle.ivy_base.specs.declared.key.Key.{Key}
use Rattle.ivy_base.specs.Naming.{key_cmp}
use Rattle.ivy_base.proofs.NameLemmas.{byte_of_digest, length-digest}
use Rattle.ring_model.specs.Circle.{be_number}
use Rattle.ring_model.specs.Members.{IsAmong, following, from_place}
use Rattle.ring_model.proofs.Lists.{all-among, all_from, among-cases, among_take, first_among, none_some}
use Rattle.ring_model.proofs.Members.{among_live, from_place_live}
use Rattle.dht_ids.specs.NodeIds.{node_id_of}
use Rattle.dht_ids.specs.declared.peer.Peer.{Peer}
use Rattle.dht_ids.specs.Peers.{place}
use Rattle.dht_ids.proofs.Numbers.{AreBytes, be_number_below}
use Rattle.dhash_model.specs.Settled.{IsSettledNode}
use Rattle.script_driver.specs.Run.{Outcome, Goes, Ends, Refuses, Exceeds}
use Rattle.world_model.specs.Nodes.{Node}
use Rattle.world_model.specs.World.{World, node_at, peer_of}
use Rattle.world_model.specs.Ring.{AreSettled, RingLine, first_peers, in_ring_order, is_known_id, live_in_order, peer_numbered}
use Rattle.world_model.specs.Ring.AreSettled.{none as nobody, more as one_more}
use Rattle.world_model.specs.Ring.RingLine.{refused, exceeds, makes}
use Rattle.world_model.specs.RingOf.{own_node}
use Rattle.world_model.specs.Holding.{held_in}
use Rattle.round_laws.specs.RingOf.{AreApart, AreNodes, IsSettledIn, KnowsOnly, links_in}
use Rattle.round_laws.specs.Holding.{AreStores}
use Rattle.round_laws.specs.Laws.{RingLineSettles}
use Rattle.round_laws.proofs.Nodes.{at_among, links_at, ties}
use Rattle.round_laws.proofs.Order.{fold_among}
use Rattle.round_laws.proofs.Rounding.{at_own, in_order, order_ascending, order_in}
use Rattle.round_laws.proofs.Holding.{held_at}

-- ---- places tell identifiers apart

digits_apart : (x y r s p : ℕ) → r < p → s < p → x < y → x * p + r ≡ y * p + s → ⊥
digits_apart x y r s p lr ls l e =
    let more : suc x * p ≤ y * p = mul-le-mul_right p (above x y l) in
    let is = suc-mul x p in
    too_much (x * p) (y * p) (suc x * p) r s p lr more is e
  where
    above : (m n : ℕ) → m < n → suc m ≤ n
    above m n l = omega (arith, l)

    too_much : (a c d r s p : ℕ) → r < p → d ≤ c → d ≡ a + p → a + r ≡ c + s → ⊥
    too_much a c d r s p l m i e = omega (arith, l, m, i, e)

same_digit : (x y r s p : ℕ) → r < p → s < p → x * p + r ≡ y * p + s → (x ≡ y) × (r ≡ s)
same_digit x y r s p lr ls e = by (three x y)
  where
    three : (m n : ℕ) → (m ≡ n) ⊎ ((m < n) ⊎ (n < m))
    three m n = grind arith

    rest : (a c r s : ℕ) → a ≡ c → a + r ≡ c + s → r ≡ s
    rest a c r s i e = omega (arith, i, e)

    by : (x ≡ y) ⊎ ((x < y) ⊎ (y < x)) → (x ≡ y) × (r ≡ s)
    by (inl i) = (i, rest (x * p) (y * p) r s (ap (λ z. z * p) i) e)
    by (inr (inl l)) = absurd (digits_apart x y r s p lr ls l e)
    by (inr (inr l)) = absurd (digits_apart y x s r p ls lr l (sym e))

one_number : (xs ys : List ℕ) → length xs ≡ length ys → AreBytes xs → AreBytes ys → be_number xs ≡ be_number ys → xs ≡ ys
one_number [] [] l a b e = refl
one_number [] (y ∷ ys) l a b e = absurd cc
one_number (x ∷ xs) [] l a b e = absurd cc
one_number (x ∷ xs) (y ∷ ys) l a b e =
    let size : length xs ≡ length ys = omega (arith, l) in
    let low : be_number xs < 256 ^ length xs = be_number_below xs (λ i. a (suc i)) in
    let other : be_number ys < 256 ^ length xs = subst (λ n. be_number ys < 256 ^ n) (sym size) (be_number_below ys (λ i. b (suc i))) in
    let d = same_digit x y (be_number xs) (be_number ys) (256 ^ length xs) low other (e ∙ ap (λ n. y * 256 ^ n + be_number ys) (sym size)) in
    λ i. d.0 i ∷ one_number xs ys size (λ j. a (suc j)) (λ j. b (suc j)) d.1 i

-- the peer has the identifier of its number
abbrev pub IsNamed : Peer → Type 0
IsNamed p = p.id ≡ node_id_of p.number

bytes_of : (p : Peer) → IsNamed p → AreBytes p.id.0 × (length p.id.0 ≡ 20)
bytes_of p e = subst (λ (k : Key). AreBytes k.0 × (length k.0 ≡ 20)) (sym e) (byte_of_digest (codes "node-" ++ decimal p.number), length-digest (codes "node-" ++ decimal p.number))

pub one_id : (p q : Peer) → IsNamed p → IsNamed q → place p ≡ place q → p.id ≡ q.id
one_id p q e f s =
    let a = bytes_of p e in
    let c = bytes_of q f in
    let same = one_number p.id.0 q.id.0 (a.1 ∙ sym c.1) a.0 c.0 s in
    λ i. record { 0 = same i }

pub within_circle : (p : Peer) → IsNamed p → place p < 2 ^ 160
within_circle p e = let a = bytes_of p e in let l = be_number_below p.id.0 a.0 in subst (λ n. place p < 256 ^ n) a.1 l

-- ---- the first peers

pub is_known : (peers : List Peer) (p q : Peer) → is_known_id peers p ≡ false → IsAmong q peers → q.id ≡ p.id → ⊥
is_known [] p q k i e = elim i [ ]
is_known (x ∷ peers) p q k (inl s) e = let t = ties x.id p.id (ap (λ (y : Peer). y.id) s ∙ e) in first_fails (eq_by_cmp key_cmp x.id p.id) (is_known_id peers p) t k
  where
    first_fails : (a c : Bool) → a ≡ true → (a || c) ≡ false → ⊥
    first_fails true c t k = cc
    first_fails false c t k = cc
is_known (x ∷ peers) p q k (inr i) e = is_known peers p q (rest (eq_by_cmp key_cmp x.id p.id) (is_known_id peers p) k) i e
  where
    rest : (a c : Bool) → (a || c) ≡ false → c ≡ false
    rest true c k = absurd cc
    rest false c k = k

all_named : (n : ℕ) (q : Peer) → IsAmong q (first_peers n) → IsNamed q
all_named zero q i = elim i [ ]
all_named (suc n) q i = by (is_known_id (first_peers n) (peer_numbered n)) i (λ j. all_named n q j)
  where
    by : (t : Bool) → IsAmong q (cond t (first_peers n) (first_peers n ++ peer_numbered n ∷ [])) → (IsAmong q (first_peers n) → IsNamed q) → IsNamed q
    by true i earlier = earlier i
    by false i earlier = ⊎_elim (λ j. earlier j) (λ j. ⊎_elim (λ e. subst IsNamed e refl) (λ n. elim n [ ]) j) (among-cases q (first_peers n) (peer_numbered n ∷ []) i)

pub apart_with : (ps : List Peer) (p : Peer) → AreApart ps → ((q : Peer) → IsAmong q ps → place q ≡ place p → ⊥) → AreApart (ps ++ p ∷ [])
apart_with [] p a d = (tt, tt)
apart_with (q ∷ ps) p a d = (all_from (λ z. place q ≡ place z → ⊥) (ps ++ p ∷ []) (λ z i. ⊎_elim (λ j. all-among (λ z. place q ≡ place z → ⊥) z ps a.0 j) (λ j. ⊎_elim (λ e s. d q (inl refl) (s ∙ ap place (sym e))) (λ n. elim n [ ]) j) (among-cases z ps (p ∷ []) i)), apart_with ps p a.1 (λ z i. d z (inr i)))

peers_apart : (n : ℕ) → AreApart (first_peers n)
peers_apart zero = tt
peers_apart (suc n) = by (is_known_id (first_peers n) (peer_numbered n)) refl (peers_apart n)
  where
    by : (t : Bool) → is_known_id (first_peers n) (peer_numbered n) ≡ t → AreApart (first_peers n) → AreApart (cond t (first_peers n) (first_peers n ++ peer_numbered n ∷ []))
    by true k a = a
    by false k a = apart_with (first_peers n) (peer_numbered n) a (λ q i s. is_known (first_peers n) (peer_numbered n) q k i (one_id q (peer_numbered n) (all_named n q i) refl s))

few_peers : (n : ℕ) → length (first_peers n) ≤ n
few_peers zero = omega arith
few_peers (suc n) = by (is_known_id (first_peers n) (peer_numbered n)) (few_peers n)
  where
    one_longer : (ps : List Peer) (p : Peer) → length (ps ++ p ∷ []) ≡ suc (length ps)
    one_longer [] p = refl
    one_longer (q ∷ ps) p = ap suc (one_longer ps p)

    by : (t : Bool) → length (first_peers n) ≤ n → length (cond t (first_peers n) (first_peers n ++ peer_numbered n ∷ [])) ≤ suc n
    by true l = omega (arith, l)
    by false l = let more = one_longer (first_peers n) (peer_numbered n) in omega (arith, l, more)

-- ---- nodes of a settled ring

peers_are : (live : List Peer) (r : ℕ) (peers : List Peer) (nodes : List Node) → AreSettled live r peers nodes → map peer_of nodes ≡ peers
peers_are live r [] nodes nobody = refl
peers_are live r (p ∷ peers) all (one_more {nodes = nodes} state s rest) = λ i. s.itself i ∷ peers_are live r peers nodes rest i

abbrev IsMadeOf : List Peer → ℕ → Node → Type 0
IsMadeOf live r n = IsSettledNode live (peer_of n) r n.ring × (n.is_live ≡ true) × (n.blocks ≡ [])

all_made : (live : List Peer) (r : ℕ) (peers : List Peer) (nodes : List Node) → AreSettled live r peers nodes → AllByRecursion (IsMadeOf live r) nodes
all_made live r [] nodes nobody = tt
all_made live r (p ∷ peers) all (one_more {nodes = nodes} state s rest) = ((subst (λ (q : Peer). IsSettledNode live q r state) (sym s.itself) s, refl, refl), all_made live r peers nodes rest)

node_of_peer : (nodes : List Node) (p : Peer) → IsAmong p (map peer_of nodes) → (n : Node) × IsAmong n nodes × (peer_of n ≡ p)
node_of_peer [] p i = elim i [ ]
node_of_peer (n ∷ nodes) p (inl e) = (n, inl refl, e)
node_of_peer (n ∷ nodes) p (inr i) = let r = node_of_peer nodes p i in (r.0, inr r.1, r.2)

all_live : (live : List Peer) (r : ℕ) (nodes : List Node) → AllByRecursion (IsMadeOf live r) nodes → map peer_of (filter (λ n. n.is_live) nodes) ≡ map peer_of nodes
all_live live r [] a = refl
all_live live r (n ∷ nodes) a = ap (λ t. map peer_of (cond t (n ∷ filter (λ m. m.is_live) nodes) (filter (λ m. m.is_live) nodes))) a.0.1 ∙ ap (λ (l : List Peer). peer_of n ∷ l) (all_live live r nodes a.1)

all_last : (P : Peer → Type 0) (o : Option Peer) (l : List Peer) → IfSome o P → AllByRecursion P l → IfSome (last_or o l) P
all_last P o [] h a = h
all_last P o (x ∷ l) h a = all_last P (Some x) l a.0 a.1

by_index : (P : Peer → Type 0) (xs : List Peer) (d : Peer) → ((k : ℕ) → k < length xs → P (get_or xs k d)) → AllByRecursion P xs
by_index P [] d h = tt
by_index P (x ∷ xs) d h = (h 0 (omega arith), by_index P xs d (λ k l. h (suc k) (omega (arith, l))))

knows_live : (live made : List Peer) (r : ℕ) (n : Node) → ((m : Peer) → IsAmong m live → IsAmong m made) → IsSettledNode live (peer_of n) r n.ring → KnowsOnly made n
knows_live live made r n in_made s = record {
  list = subst (AllByRecursion (λ q. IsAmong q made)) (sym s.list) (all_from (λ q. IsAmong q made) (take (2 * r) (following place live (peer_of n))) (λ m i. in_made m (among_live place live (peer_of n) m (among_take (2 * r) m (following place live (peer_of n)) i))));
  fingers = by_index (λ q. IsAmong q made) n.ring.links.fingers (peer_of n) (λ k l. in_made (get_or n.ring.links.fingers k (peer_of n))
      (from_place_live place live _ (get_or n.ring.links.fingers k (peer_of n)) (first_among (from_place place live _) (get_or n.ring.links.fingers k (peer_of n)) (sym (s.fingers.right k (subst (λ c. k < c) s.fingers.sized l))))));
  before = subst (λ (o : Option Peer). IfSome o (λ q. IsAmong q made)) (sym s.before) (all_last (λ q. IsAmong q made) None (following place live (peer_of n)) tt (all_from (λ q. IsAmong q made) (following place live (peer_of n)) (λ m i. in_made m (among_live place live (peer_of n) m i))));
}

-- ---- the line

record Made (w next : World) (count r : ℕ) : Type 0 where
  nodes : List Node
  positive : 1 ≤ r
  few : count ≤ 256
  settled : AreSettled (in_ring_order (first_peers count)) r (first_peers count) nodes
  is : next.nodes ≡ nodes

made_by_line : (w next : World) (count r : ℕ) (output : List ℕ) (o : Outcome World) → RingLine w count r o → o ≡ Goes next output → Made w next count r
made_by_line w next count r output o (refused t) e = absurd cc
made_by_line w next count r output o (exceeds t f) e = absurd cc
made_by_line w next count r output o (makes nodes t f s) e =
    record { nodes = nodes; positive = leb-true 1 r (some (is_some w.replicas) (nat_le 1 r) (nat_le r 8) (count == 0) t); few = leb-true count 256 f; settled = s; is = ap (λ (x : Outcome World). nodes_in x) (sym e) }
  where
    nodes_in : Outcome World → List Node
    nodes_in (Goes v text) = v.nodes
    nodes_in Ends = []
    nodes_in Refuses = []
    nodes_in Exceeds = []

    some : (a c d z : Bool) → (a || not (c && d) || z) ≡ false → c ≡ true
    some a true d z t = refl
    some true false d z t = absurd cc
    some false false d z t = absurd cc

none_held : (key : Key) (p : Peer) (o : Option Node) → ((n : Node) → o ≡ Some n → n.blocks ≡ []) → held_at key (own_node p o) ≡ None
none_held key p None h = refl
none_held key p (Some n) h = by (nat_eq (peer_of n).number p.number)
  where
    by : (t : Bool) → held_at key (cond t (Some n) None) ≡ None
    by true = ap (λ blocks. value_at key_cmp key blocks) (h n refl)
    by false = refl

module _ (w next : World) (count r : ℕ) (m : Made w next count r) where
  all : AllByRecursion (IsMadeOf (in_ring_order (first_peers count)) r) next.nodes
  all = subst (AllByRecursion (IsMadeOf (in_ring_order (first_peers count)) r)) (sym m.is) (all_made (in_ring_order (first_peers count)) r (first_peers count) m.nodes m.settled)

  peers : map peer_of next.nodes ≡ first_peers count
  peers = ap (map peer_of) m.is ∙ peers_are (in_ring_order (first_peers count)) r (first_peers count) m.nodes m.settled

  order_is : live_in_order next ≡ in_ring_order (first_peers count)
  order_is = ap in_ring_order (all_live (in_ring_order (first_peers count)) r next.nodes all ∙ peers)

  in_made : (p : Peer) → IsAmong p (in_ring_order (first_peers count)) → IsAmong p (map peer_of next.nodes)
  in_made p i = subst (IsAmong p) (sym peers) (⊎_elim (λ n. elim n [ ]) (λ j. j) (fold_among p [] (first_peers count) i))

  nodes_are : AreNodes r next
  nodes_are = record {
    apart = subst AreApart (sym peers) (peers_apart count);
    replicas = all_from (λ n. n.ring.replicas ≡ r) next.nodes (λ n i. (all-among (IsMadeOf (in_ring_order (first_peers count)) r) n next.nodes all i).0.replicas);
    known = all_from (KnowsOnly (map peer_of next.nodes)) next.nodes (λ n i. knows_live (in_ring_order (first_peers count)) (map peer_of next.nodes) r n in_made (all-among (IsMadeOf (in_ring_order (first_peers count)) r) n next.nodes all i).0);
  }

  node_in : (p : Peer) → IsAmong p (live_in_order next) → (n : Node) × IsSettledNode (live_in_order next) p r n.ring × (links_in next p ≡ n.ring.links)
  node_in p i =
      let n = node_of_peer next.nodes p (in_made p (subst (IsAmong p) order_is i)) in
      let own = all-among (IsMadeOf (in_ring_order (first_peers count)) r) n.0 next.nodes all n.1 in
      let at = at_own next.nodes n.0 nodes_are.apart n.1 in (
        n.0,
        subst (λ l. IsSettledNode l p r n.0.ring) (sym order_is) (subst (λ q. IsSettledNode (in_ring_order (first_peers count)) q r n.0.ring) n.2 own.0),
        links_at next p n.0 (subst (λ (q : Peer). node_at next q.id ≡ Some n.0) n.2 at) n.2,
      )

  is_settled : IsSettledIn next r
  is_settled = record {
    positive = m.positive;
    ascending = order_ascending r next nodes_are;
    within = λ p i. within_circle p (all_named count p (subst (IsAmong p) peers (in_made p (subst (IsAmong p) order_is i))));
    living = λ p l. order_in r next p nodes_are l;
    lives_all = λ p i. in_order r next p nodes_are i;
    lists = λ p i. let n = node_in p i in (λ j. (n.2 j).list) ∙ n.1.list;
    sized = λ p i. let n = node_in p i in (λ j. length (n.2 j).fingers) ∙ n.1.fingers.sized;
    fingers = λ p k i l. let n = node_in p i in (λ j. Some (get_or (n.2 j).fingers k p)) ∙ n.1.fingers.right k l;
  }

  holds_nothing : AreStores next
  unfolding IsStrictlySortedBy
  holds_nothing = record {
    sorted = all_from (λ n. IsStrictlySortedBy key_cmp (keys_of n.blocks)) next.nodes
        (λ n i. subst (λ l. IsStrictlySortedBy key_cmp (keys_of l)) (sym (all-among (IsMadeOf (in_ring_order (first_peers count)) r) n next.nodes all i).2) tt);
    kinds = λ key p q c d e f. absurd (none_some c (sym (nothing key p) ∙ e));
  }
    where
      nothing : (key : Key) (p : Peer) → held_in next key p ≡ None
      nothing key p = none_held key p (node_at next p.id) (λ n e. (all-among (IsMadeOf (in_ring_order (first_peers count)) r) n next.nodes all (at_among next.nodes p.id n e)).2)

pub ring_line_settles : RingLineSettles
ring_line_settles w next count r output line =
    let m = made_by_line w next count r output (Goes next output) line refl in
    let size : length (map peer_of next.nodes) ≤ count = subst (λ l. length l ≤ count) (sym (peers w next count r m)) (few_peers count) in
    let same = length_map next.nodes in
    (nodes_are w next count r m, is_settled w next count r m, omega (arith, size, same, m.few), holds_nothing w next count r m, all_from (λ p. p.id ≡ node_id_of p.number) (map peer_of next.nodes) (λ p i. all_named count p (subst (IsAmong p) (peers w next count r m) i)))
  where
    length_map : (nodes : List Node) → length (map peer_of nodes) ≡ length nodes
    length_map [] = refl
    length_map (n ∷ nodes) = ap suc (length_map nodes)
