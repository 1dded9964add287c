-- The live nodes in the order of their places: they ascend, and they are those that live.
use Rattle.std.proofs.Common.{◌≡◌, ◌⊎◌, inl, inr, ⊎_elim, ℕ, ◌<◌, ◌≤◌, Bool, true, false, cond, List, [], ◌∷◌, map, filter, fold, refl, sym, ap, ◌∙◌, subst, Some, arith, nat_eq, nat_lt}
use Rattle.std.specs.List.{AllByRecursion}
use Rattle.std.specs.Ordering.{eq_by_cmp}
use Rattle.std.proofs.lemmas.Bool.{cond-true, cond-false, eqb-true, eq-eqb, ltb-true, ltb-false}
use Rattle.ivy_base.specs.Naming.{key_cmp}
use Rattle.ring_model.specs.Members.{IsAmong, HasAscendingPlaces}
use Rattle.ring_model.proofs.Lists.{all-among, among_filter, all_from}
use Rattle.dht_ids.specs.declared.peer.Peer.{Peer}
use Rattle.dht_ids.specs.Peers.{place}
use Rattle.world_model.specs.Ring.{with_peer}
use Rattle.round_laws.specs.RingOf.{AreApart}
use Rattle.round_laws.proofs.Nodes.{Shape, lives_by, made_by, not_tied, order_by, own_shape, same_id, same_peer, same_place, shape_at, ties}

-- ---- members

to_cond : (x p : Peer) (one other : List Peer) (b : Bool) → IsAmong x one → IsAmong x other → IsAmong x (cond b one other)
to_cond x p one other true h g = h
to_cond x p one other false h g = g

among_with : (x : Peer) (qs : List Peer) (p : Peer) → (p ≡ x) ⊎ IsAmong x qs → IsAmong x (with_peer qs p)
among_with x [] p h = h
among_with x (q ∷ qs) p h = to_cond x p (p ∷ q ∷ qs) (q ∷ with_peer qs p) (nat_lt (place p) (place q)) h (later (λ g. among_with x qs p g) h)
  where
    later : ((p ≡ x) ⊎ IsAmong x qs → IsAmong x (with_peer qs p)) → (p ≡ x) ⊎ IsAmong x (q ∷ qs) → IsAmong x (q ∷ with_peer qs p)
    later rest (inl e) = inr (rest (inl e))
    later rest (inr (inl e)) = inl e
    later rest (inr (inr i)) = inr (rest (inr i))

with_among : (x : Peer) (qs : List Peer) (p : Peer) → IsAmong x (with_peer qs p) → (p ≡ x) ⊎ IsAmong x qs
with_among x [] p h = h
with_among x (q ∷ qs) p h = by (nat_lt (place p) (place q)) h (λ i. with_among x qs p i)
  where
    by : (b : Bool) → IsAmong x (cond b (p ∷ q ∷ qs) (q ∷ with_peer qs p)) → (IsAmong x (with_peer qs p) → (p ≡ x) ⊎ IsAmong x qs) → (p ≡ x) ⊎ IsAmong x (q ∷ qs)
    by true h rest = h
    by false (inl e) rest = inr (inl e)
    by false (inr i) rest = ⊎_elim (λ e. inl e) (λ j. inr (inr j)) (rest i)

pub among_fold : (x : Peer) (qs ps : List Peer) → IsAmong x qs ⊎ IsAmong x ps → IsAmong x (fold with_peer qs ps)
among_fold x qs [] (inl h) = h
among_fold x qs [] (inr h) = elim h [ ]
among_fold x qs (p ∷ ps) (inl h) = among_fold x (with_peer qs p) ps (inl (among_with x qs p (inr h)))
among_fold x qs (p ∷ ps) (inr (inl e)) = among_fold x (with_peer qs p) ps (inl (among_with x qs p (inl e)))
among_fold x qs (p ∷ ps) (inr (inr h)) = among_fold x (with_peer qs p) ps (inr h)

pub fold_among : (x : Peer) (qs ps : List Peer) → IsAmong x (fold with_peer qs ps) → IsAmong x qs ⊎ IsAmong x ps
fold_among x qs [] h = inl h
fold_among x qs (p ∷ ps) h = ⊎_elim (λ i. ⊎_elim (λ e. inr (inl e)) (λ j. inl j) (with_among x qs p i)) (λ i. inr (inr i)) (fold_among x (with_peer qs p) ps h)

-- ---- ascending

ascending_with : (qs : List Peer) (p : Peer) → HasAscendingPlaces place qs → ((q : Peer) → IsAmong q qs → place q ≡ place p → ⊥) → HasAscendingPlaces place (with_peer qs p)
ascending_with [] p a d = (tt, tt)
ascending_with (q ∷ qs) p a d = by (nat_lt (place p) (place q)) refl (ascending_with qs p a.1 (λ x i. d x (inr i)))
  where
    over : place p < place q → AllByRecursion (λ y. place p < place y) qs
    over l = all_from (λ y. place p < place y) qs (λ y i. let m : place q < place y = all-among (λ z. place q < place z) y qs a.0 i in omega (arith, l, m))

    under : place q < place p → AllByRecursion (λ y. place q < place y) (with_peer qs p)
    under l = all_from (λ y. place q < place y) (with_peer qs p) (λ y i. ⊎_elim (λ e. subst (λ z. place q < place z) e l) (λ j. all-among (λ z. place q < place z) y qs a.0 j) (with_among y qs p i))

    by : (b : Bool) → nat_lt (place p) (place q) ≡ b → HasAscendingPlaces place (with_peer qs p) → HasAscendingPlaces place (cond b (p ∷ q ∷ qs) (q ∷ with_peer qs p))
    by true e rest = let l : place p < place q = ltb-true (place p) (place q) e in ((l, over l), a)
    by false e rest = let n = ltb-false (place p) (place q) e in let ne = d q (inl refl) in (under (less (place q) (place p) n ne), rest)
      where
        less : (m n : ℕ) → m ≤ n → (m ≡ n → ⊥) → m < n
        less m n l d = omega (arith, l, d)

ascending_fold : (qs ps : List Peer) → HasAscendingPlaces place qs → AreApart ps → ((q p : Peer) → IsAmong q qs → IsAmong p ps → place q ≡ place p → ⊥) → HasAscendingPlaces place (fold with_peer qs ps)
ascending_fold qs [] a apart d = a
ascending_fold qs (p ∷ ps) a apart d =
    ascending_fold (with_peer qs p) ps (ascending_with qs p a (λ q i. d q p i (inl refl))) apart.1
    (λ q x i j. ⊎_elim (λ e s. all-among (λ z. place p ≡ place z → ⊥) x ps apart.0 j (ap place e ∙ s)) (λ k. d q x k (inr j)) (with_among q qs p i))

-- lists that ascend and have the same members are one
pub same_lists : (xs ys : List Peer) → HasAscendingPlaces place xs → HasAscendingPlaces place ys → ((m : Peer) → IsAmong m xs → IsAmong m ys) → ((m : Peer) → IsAmong m ys → IsAmong m xs) → xs ≡ ys
same_lists [] [] a b f g = refl
same_lists [] (y ∷ ys) a b f g = elim (g y (inl refl)) [ ]
same_lists (x ∷ xs) [] a b f g = elim (f x (inl refl)) [ ]
same_lists (x ∷ xs) (y ∷ ys) a b f g = λ i. head i ∷ same_lists xs ys a.1 b.1 (λ m j. rest m j (f m (inr j))) (λ m j. tail m j (g m (inr j))) i
  where
    above_x : (m : Peer) → IsAmong m xs → place x < place m
    above_x m i = all-among (λ z. place x < place z) m xs a.0 i

    above_y : (m : Peer) → IsAmong m ys → place y < place m
    above_y m i = all-among (λ z. place y < place z) m ys b.0 i

    head : x ≡ y
    head = ⊎_elim (λ e. sym e) (λ i. ⊎_elim (λ e. e) (λ j. let l = above_y x i in let k = above_x y j in absurd (omega (arith, l, k))) (g y (inl refl))) (f x (inl refl))

    rest : (m : Peer) → IsAmong m xs → IsAmong m (y ∷ ys) → IsAmong m ys
    rest m i (inl e) = let l = above_x m i in let s : place x ≡ place m = ap place (head ∙ e) in absurd (omega (arith, l, s))
    rest m i (inr j) = j

    tail : (m : Peer) → IsAmong m ys → IsAmong m (x ∷ xs) → IsAmong m xs
    tail m i (inl e) = let l = above_y m i in let s : place y ≡ place m = ap place (sym head ∙ e) in absurd (omega (arith, l, s))
    tail m i (inr j) = j

-- ---- who lives

abbrev live_of : List Shape → List Peer
live_of base = map (λ (s : Shape). s.0) (filter (λ (s : Shape). s.1) base)

shape_here : (base : List Shape) (s : Shape) → AreApart (made_by base) → IsAmong s base → shape_at base s.0.id ≡ Some s
shape_here [] s apart h = elim h [ ]
shape_here (t ∷ base) s apart (inl e) = cond-true (eq_by_cmp key_cmp t.0.id s.0.id) (Some t) (shape_at base s.0.id) (ties t.0.id s.0.id (ap (λ (x : Shape). x.0.id) e)) ∙ ap (λ x. Some x) e
shape_here (t ∷ base) s apart (inr h) =
    cond-false (eq_by_cmp key_cmp t.0.id s.0.id) (Some t) (shape_at base s.0.id) (not_tied t.0.id s.0.id (λ e. far base apart.0 h (same_place t.0 s.0 e))) ∙ shape_here base s apart.1 h
  where
    far : (l : List Shape) → AllByRecursion (λ q. place t.0 ≡ place q → ⊥) (made_by l) → IsAmong s l → place t.0 ≡ place s.0 → ⊥
    far [] a h e = elim h [ ]
    far (u ∷ l) a (inl is) e = a.0 (e ∙ ap (λ (x : Shape). place x.0) (sym is))
    far (u ∷ l) a (inr h) e = far l a.1 h e

-- the shape that a living peer has
pub record HasShape (base : List Shape) (p : Peer) (s : Shape) : Type 0 where
  pub member : IsAmong s base
  pub is : s.0 ≡ p
  pub lives : s.1 ≡ true

shape_found : (base : List Shape) (p : Peer) → lives_by base p ≡ true → (s : Shape) × HasShape base p s
shape_found [] p e = let n : false ≡ true = e in absurd cc
shape_found (t ∷ base) p e = by (eq_by_cmp key_cmp t.0.id p.id) refl e (λ f. shape_found base p f)
  where
    own : (b : Bool) → nat_eq t.0.number p.number ≡ b → t.0.id ≡ p.id → cond b t.1 false ≡ true → (s : Shape) × HasShape (t ∷ base) p s
    own true n i l = (t, record { member = inl refl; is = same_peer t.0 p (eqb-true t.0.number p.number n) i; lives = l })
    own false n i l = absurd cc

    by : (b : Bool) → eq_by_cmp key_cmp t.0.id p.id ≡ b → own_shape p (cond b (Some t) (shape_at base p.id)) ≡ true → (lives_by base p ≡ true → (s : Shape) × HasShape base p s) → (s : Shape) × HasShape (t ∷ base) p s
    by true i f later = own (nat_eq t.0.number p.number) refl (same_id t.0.id p.id i) f
    by false i f later = let r = later f in (r.0, record { member = inr r.1.member; is = r.1.is; lives = r.1.lives })

live_made : (base : List Shape) (s : Shape) → IsAmong s base → s.1 ≡ true → IsAmong s.0 (live_of base)
live_made base s h l = mapped (filter (λ (t : Shape). t.1) base) (among_filter (λ (t : Shape). t.1) s base h l)
  where
    mapped : (l : List Shape) → IsAmong s l → IsAmong s.0 (map (λ (t : Shape). t.0) l)
    mapped [] h = elim h [ ]
    mapped (t ∷ l) (inl e) = inl (ap (λ (x : Shape). x.0) e)
    mapped (t ∷ l) (inr h) = inr (mapped l h)

made_live : (base : List Shape) (p : Peer) → IsAmong p (live_of base) → (s : Shape) × HasShape base p s
made_live [] p h = elim h [ ]
made_live (t ∷ base) p h = by t.1 refl h (λ i. made_live base p i)
  where
    by : (b : Bool) → t.1 ≡ b → IsAmong p (map (λ (x : Shape). x.0) (cond b (t ∷ filter (λ (x : Shape). x.1) base) (filter (λ (x : Shape). x.1) base))) → (IsAmong p (map (λ (x : Shape). x.0) (filter (λ (x : Shape). x.1) base)) → (s : Shape) × HasShape base p s)
        → (s : Shape) × HasShape (t ∷ base) p s
    by true l (inl e) later = (t, record { member = inl refl; is = e; lives = l })
    by true l (inr i) later = let r = later i in (r.0, record { member = inr r.1.member; is = r.1.is; lives = r.1.lives })
    by false l i later = let r = later i in (r.0, record { member = inr r.1.member; is = r.1.is; lives = r.1.lives })

shape_lives : (base : List Shape) (p : Peer) (s : Shape) → AreApart (made_by base) → HasShape base p s → lives_by base p ≡ true
shape_lives base p s apart h =
    subst (λ q. lives_by base q ≡ true) h.is (ap (own_shape s.0) (shape_here base s apart h.member) ∙ cond-true (nat_eq s.0.number s.0.number) s.1 false (eq-eqb s.0.number s.0.number refl) ∙ h.lives)

pub order_lives : (base : List Shape) (p : Peer) → AreApart (made_by base) → IsAmong p (order_by base) → lives_by base p ≡ true
order_lives base p apart h = ⊎_elim (λ n. elim n [ ]) (λ i. let r = found i in shape_lives base p r.0 apart r.1) (fold_among p [] (map (λ (s : Shape). s.0) (filter (λ (s : Shape). s.1) base)) h)
  where
    found : IsAmong p (map (λ (s : Shape). s.0) (filter (λ (s : Shape). s.1) base)) → (s : Shape) × HasShape base p s
    found = made_live base p

pub lives_order : (base : List Shape) (p : Peer) → lives_by base p ≡ true → IsAmong p (order_by base)
lives_order base p l = let r = shape_found base p l in among_fold p [] (map (λ (s : Shape). s.0) (filter (λ (s : Shape). s.1) base)) (inr (subst (λ q. IsAmong q (live_of base)) r.1.is (live_made base r.0 r.1.member r.1.lives)))

pub lives_made : (base : List Shape) (p : Peer) → lives_by base p ≡ true → IsAmong p (made_by base)
lives_made base p l = let r = shape_found base p l in subst (λ q. IsAmong q (made_by base)) r.1.is (mapped base r.0 r.1.member)
  where
    mapped : (l : List Shape) (s : Shape) → IsAmong s l → IsAmong s.0 (made_by l)
    mapped [] s h = elim h [ ]
    mapped (t ∷ l) s (inl e) = inl (ap (λ (x : Shape). x.0) e)
    mapped (t ∷ l) s (inr h) = inr (mapped l s h)

pub order_ascends : (base : List Shape) → AreApart (made_by base) → HasAscendingPlaces place (order_by base)
order_ascends base apart = ascending_fold [] (map (λ (s : Shape). s.0) (filter (λ (s : Shape). s.1) base)) tt (kept base apart) (λ q p i. elim i [ ])
  where
    all_kept : (p : Peer) (l : List Shape) → AllByRecursion (λ q. place p ≡ place q → ⊥) (made_by l) → AllByRecursion (λ q. place p ≡ place q → ⊥) (map (λ (s : Shape). s.0) (filter (λ (s : Shape). s.1) l))
    all_kept p [] a = tt
    all_kept p (t ∷ l) a = test t.1 (all_kept p l a.1)
      where
        test : (b : Bool) → AllByRecursion (λ q. place p ≡ place q → ⊥) (map (λ (s : Shape). s.0) (filter (λ (s : Shape). s.1) l))
            → AllByRecursion (λ q. place p ≡ place q → ⊥) (map (λ (s : Shape). s.0) (cond b (t ∷ filter (λ (s : Shape). s.1) l) (filter (λ (s : Shape). s.1) l)))
        test true h = (a.0, h)
        test false h = h

    kept : (l : List Shape) → AreApart (made_by l) → AreApart (map (λ (s : Shape). s.0) (filter (λ (s : Shape). s.1) l))
    kept [] a = tt
    kept (t ∷ l) a = test t.1 (all_kept t.0 l a.0) (kept l a.1)
      where
        test : (b : Bool) → AllByRecursion (λ q. place t.0 ≡ place q → ⊥) (map (λ (s : Shape). s.0) (filter (λ (s : Shape). s.1) l)) → AreApart (map (λ (s : Shape). s.0) (filter (λ (s : Shape). s.1) l))
            → AreApart (map (λ (s : Shape). s.0) (cond b (t ∷ filter (λ (s : Shape). s.1) l) (filter (λ (s : Shape). s.1) l)))
        test true h rest = (h, rest)
        test false h rest = rest
