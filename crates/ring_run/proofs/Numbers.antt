-- Peers by number.
use Rattle.std.proofs.Common.{◌≡◌, ◌⊎◌, inl, inr, ℕ, zero, suc, ◌+◌, ◌<◌, ◌≤◌, Bool, true, false, cond, List, [], ◌∷◌, ◌++◌, filter, length, map, refl, sym, ap, ◌∙◌, ◌||◌, subst, arith}
use Rattle.std.specs.List.{AllByRecursion}
use Rattle.std.specs.List.Sorted.{IsStrictlyIncreasing}
use Rattle.std.specs.Ordering.{eq_by_cmp}
use Rattle.std.specs.Prelude.{◌≢◌, nat_lt, slice_index}
use Rattle.std.proofs.lemmas.Bool.{ltb-true, ltb-false}
use Rattle.ivy_base.specs.Naming.{key_cmp}
use Rattle.ring_model.specs.Members.{IsAmong, HasAscendingPlaces}
use Rattle.ring_model.proofs.Lists.{all-both, all_from, all_weaker, filter_gives}
use Rattle.dht_ids.specs.NodeIds.{node_id_of}
use Rattle.dht_ids.specs.declared.peer.Peer.{Peer}
use Rattle.round_laws.specs.RingOf.{AreNamed}
use Rattle.round_laws.proofs.Nodes.{ties}
use Rattle.world_model.specs.Ring.{first_peers, is_known_id, peer_numbered}
use Rattle.world_model.specs.World.{with_numbered}
use Rattle.ring_run.specs.Changes.{with_node_more}
use Rattle.ring_run.specs.Live.{IsLiveRing, LiveState}

abbrev number_of : Peer → ℕ
number_of p = p.number

abbrev IsNamed : Peer → Type 0
IsNamed p = p.id ≡ node_id_of p.number

-- ---- numbers that ascend, place by place

step_ascends : (ps : List Peer) → HasAscendingPlaces number_of ps → (k : ℕ) → suc k < length (map number_of ps) → slice_index (map number_of ps) k < slice_index (map number_of ps) (suc k)
step_ascends [] a k l = absurd (omega (arith, l))
step_ascends (p ∷ []) a k l = absurd (omega (arith, l))
step_ascends (p ∷ q ∷ ps) a zero l = a.0.0
step_ascends (p ∷ q ∷ ps) a (suc k) l = step_ascends (q ∷ ps) a.1 k (omega (arith, l))

pub numbers_ascend : (ps : List Peer) → HasAscendingPlaces (λ p. p.number) ps → IsStrictlyIncreasing (map (λ p. p.number) ps)
numbers_ascend ps a k l =
    let one : k + 1 ≡ suc k = omega arith in
    subst (λ m. slice_index (map number_of ps) k < slice_index (map number_of ps) m) (sym one) (step_ascends ps a k (subst (λ m. m < length (map number_of ps)) one l))

-- ---- one more at the end

ascends_behind : (ps : List Peer) (p : Peer) → HasAscendingPlaces number_of ps → AllByRecursion (λ q. q.number < p.number) ps → HasAscendingPlaces number_of (ps ++ p ∷ [])
ascends_behind [] p a below = (tt, tt)
ascends_behind (q ∷ ps) p a below = (all-both (λ y. q.number < y.number) ps (p ∷ []) a.0 (below.0, tt), ascends_behind ps p a.1 below.1)

-- ---- the first peers

record AreFirst (n : ℕ) (ps : List Peer) : Type 0 where
  below : AllByRecursion (λ q. q.number < n) ps
  ascends : HasAscendingPlaces number_of ps
  named : AreNamed ps

first_more : (n : ℕ) (ps : List Peer) (t : Bool) → AreFirst n ps → AreFirst (suc n) (cond t ps (ps ++ peer_numbered n ∷ []))
first_more n ps true a = record { below = all_weaker (λ q. q.number < n) (λ q. q.number < suc n) ps (λ q l. omega (arith, l)) a.below; ascends = a.ascends; named = a.named }
first_more n ps false a = record {
  below = all-both (λ q. q.number < suc n) ps (peer_numbered n ∷ []) (all_weaker (λ q. q.number < n) (λ q. q.number < suc n) ps (λ q l. omega (arith, l)) a.below) (omega arith, tt);
  ascends = ascends_behind ps (peer_numbered n) a.ascends a.below;
  named = all-both IsNamed ps (peer_numbered n ∷ []) a.named (refl, tt);
}

first_are : (n : ℕ) → AreFirst n (first_peers n)
first_are zero = record { below = tt; ascends = tt; named = tt }
first_are (suc n) = first_more n (first_peers n) (is_known_id (first_peers n) (peer_numbered n)) (first_are n)

some_behind : (ps : List Peer) (p : Peer) → ps ++ p ∷ [] ≢ []
some_behind [] p e = absurd cc
some_behind (q ∷ ps) p e = absurd cc

one_more : (ps : List Peer) (p : Peer) (t : Bool) → ps ≢ [] → cond t ps (ps ++ p ∷ []) ≢ []
one_more ps p true h e = h e
one_more ps p false h e = some_behind ps p e

first_some : (n : ℕ) → first_peers (suc n) ≢ []
first_some zero = some_behind [] (peer_numbered zero)
first_some (suc n) = one_more (first_peers (suc n)) (peer_numbered (suc n)) (is_known_id (first_peers (suc n)) (peer_numbered (suc n))) (first_some n)

counted_some : (n : ℕ) → 1 ≤ n → first_peers n ≢ []
counted_some zero l = absurd (omega (arith, l))
counted_some (suc n) l = first_some n

pub new_is_live : (count replicas : ℕ) (made live : List Peer) → made ≡ first_peers count → live ≡ first_peers count → 1 ≤ count → 1 ≤ replicas → replicas ≤ 8 → IsLiveRing (record { replicas = replicas; made = made; live = live })
new_is_live count replicas made live e l counted some few =
    let f = first_are count in
    record {
      some = some;
      few = few;
      nodes = subst (λ ps. ps ≢ []) (sym e) (counted_some count counted);
      named = subst AreNamed (sym e) f.named;
      ascending = subst (HasAscendingPlaces number_of) (sym e) f.ascends;
      living = subst (AllByRecursion (λ p. IsAmong p made)) (e ∙ sym l) (all_from (λ p. IsAmong p made) made (λ p i. i));
    }

-- ---- one more in its place

numbered_all : (P : Peer → Type 0) (ps : List Peer) (p : Peer) → AllByRecursion P ps → P p → AllByRecursion P (with_numbered ps p)
numbered_all P [] p a h = (h, tt)
numbered_all P (q ∷ ps) p a h = by (nat_lt p.number q.number) (numbered_all P ps p a.1 h)
  where
    by : (t : Bool) → AllByRecursion P (with_numbered ps p) → AllByRecursion P (cond t (p ∷ q ∷ ps) (q ∷ with_numbered ps p))
    by true rest = (h, a)
    by false rest = (a.0, rest)

above : (m n : ℕ) → n ≤ m → (n ≡ m → ⊥) → n < m
above m n l d = omega (arith, l, d)

numbered_ascends : (ps : List Peer) (p : Peer) → HasAscendingPlaces number_of ps → AllByRecursion (λ q. q.number ≡ p.number → ⊥) ps → HasAscendingPlaces number_of (with_numbered ps p)
numbered_ascends [] p a d = (tt, tt)
numbered_ascends (q ∷ ps) p a d = by (nat_lt p.number q.number) refl (numbered_ascends ps p a.1 d.1)
  where
    by : (t : Bool) → nat_lt p.number q.number ≡ t → HasAscendingPlaces number_of (with_numbered ps p) → HasAscendingPlaces number_of (cond t (p ∷ q ∷ ps) (q ∷ with_numbered ps p))
    by true t rest =
        let less : p.number < q.number = ltb-true p.number q.number t in
        ((less, all_weaker (λ y. q.number < y.number) (λ y. p.number < y.number) ps (λ y l. omega (arith, less, l)) a.0), a)
    by false t rest =
        let most : q.number ≤ p.number = ltb-false p.number q.number t in
        (numbered_all (λ y. q.number < y.number) ps p a.0 (above p.number q.number most d.0), rest)

-- ---- a peer that wasn't made

apart : (b : Bool) → b ≡ true → b ≡ false → ⊥
apart true t f = absurd cc
apart false t f = absurd cc

unknown_differs : (ps : List Peer) (n : ℕ) → AreNamed ps → is_known_id ps (peer_numbered n) ≡ false → AllByRecursion (λ q. q.number ≡ n → ⊥) ps
unknown_differs [] n named u = tt
unknown_differs (q ∷ ps) n named u = by (eq_by_cmp key_cmp q.id (node_id_of n)) refl u (λ v. unknown_differs ps n named.1 v)
  where
    by : (t : Bool) → eq_by_cmp key_cmp q.id (node_id_of n) ≡ t → (t || is_known_id ps (peer_numbered n)) ≡ false → (is_known_id ps (peer_numbered n) ≡ false → AllByRecursion (λ q. q.number ≡ n → ⊥) ps)
        → AllByRecursion (λ q. q.number ≡ n → ⊥) (q ∷ ps)
    by true t v rest = absurd cc
    by false t v rest = (λ e. apart (eq_by_cmp key_cmp q.id (node_id_of n)) (ties q.id (node_id_of n) (named.0 ∙ ap node_id_of e)) t, rest v)

some_numbered : (ps : List Peer) (p : Peer) → with_numbered ps p ≢ []
some_numbered [] p e = absurd cc
some_numbered (q ∷ ps) p e = by (nat_lt p.number q.number) e
  where
    by : (t : Bool) → cond t (p ∷ q ∷ ps) (q ∷ with_numbered ps p) ≢ []
    by true e = absurd cc
    by false e = absurd cc

in_numbered : (q p : Peer) (ps : List Peer) → (p ≡ q) ⊎ IsAmong q ps → IsAmong q (with_numbered ps p)
in_numbered q p [] (inl e) = inl e
in_numbered q p [] (inr i) = absurd i
in_numbered q p (x ∷ ps) h = by (nat_lt p.number x.number) (in_numbered q p ps) h
  where
    by : (t : Bool) → ((p ≡ q) ⊎ IsAmong q ps → IsAmong q (with_numbered ps p)) → (p ≡ q) ⊎ IsAmong q (x ∷ ps) → IsAmong q (cond t (p ∷ x ∷ ps) (x ∷ with_numbered ps p))
    by true rest h = h
    by false rest (inl e) = inr (rest (inl e))
    by false rest (inr (inl e)) = inl e
    by false rest (inr (inr i)) = inr (rest (inr i))

joined_is_live : (r : LiveState) (n : ℕ) → IsLiveRing r → is_known_id r.made (peer_numbered n) ≡ false → IsLiveRing (with_node_more r n)
joined_is_live r n l u =
    let p = peer_numbered n in
    record {
      some = l.some;
      few = l.few;
      nodes = some_numbered r.made p;
      named = numbered_all IsNamed r.made p l.named refl;
      ascending = numbered_ascends r.made p l.ascending (unknown_differs r.made n l.named u);
      living = all-both (λ q. IsAmong q (with_numbered r.made p)) r.live (p ∷ [])
          (all_weaker (λ q. IsAmong q r.made) (λ q. IsAmong q (with_numbered r.made p)) r.live (λ q i. in_numbered q p r.made (inr i)) l.living)
          (in_numbered p p r.made (inl refl), tt);
    }

pub taken_is_live : (r : LiveState) (replicas n : ℕ) (old made live next : List Peer) → IsLiveRing (record { replicas = replicas; made = old; live = live }) → record { replicas = replicas; made = old; live = live } ≡ r
    → is_known_id r.made (peer_numbered n) ≡ false → made ≡ with_numbered old (peer_numbered n) → next ≡ live ++ peer_numbered n ∷ [] → IsLiveRing (record { replicas = replicas; made = made; live = next })
taken_is_live r replicas n old made live next is view u e more =
    let here : is_known_id old (peer_numbered n) ≡ false = ap (λ (s : LiveState). is_known_id s.made (peer_numbered n)) view ∙ u in
    let same : with_node_more (record { replicas = replicas; made = old; live = live }) n ≡ record { replicas = replicas; made = made; live = next } = λ i. record { replicas = replicas; made = sym e i; live = sym more i } in
    subst IsLiveRing same (joined_is_live (record { replicas = replicas; made = old; live = live }) n is here)

-- where a node stops, the others are among those that were made
pub left_is_live : (replicas : ℕ) (made live next : List Peer) (test : Peer → Bool) → IsLiveRing (record { replicas = replicas; made = made; live = live }) → next ≡ filter test live → IsLiveRing (record { replicas = replicas; made = made; live = next })
left_is_live replicas made live next test l e = record {
  some = l.some;
  few = l.few;
  nodes = l.nodes;
  named = l.named;
  ascending = l.ascending;
  living = subst (AllByRecursion (λ p. IsAmong p made)) (sym e)
      (filter_gives test (λ p. IsAmong p made) live (all_weaker (λ p. IsAmong p made) (λ p. test p ≡ true → IsAmong p made) live (λ p i t. i) l.living));
}

-- what a walk over the nodes made says
pub known_made : (r : LiveState) (made read : List Peer) (p : Peer) (n : ℕ) (b t : Bool) → b ≡ is_known_id read p → b ≡ t → p ≡ peer_numbered n → read ≡ made → made ≡ r.made → is_known_id r.made (peer_numbered n) ≡ t
known_made r made read p n b t k is named same view =
    sym (ap (λ l. is_known_id l (peer_numbered n)) (same ∙ view)) ∙ sym (ap (is_known_id read) named) ∙ sym k ∙ is
