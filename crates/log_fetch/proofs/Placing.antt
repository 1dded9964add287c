-- The order of heads: one more is taken in at its place.
use Rattle.std.proofs.Common.{◌≡◌, ◌⊎◌, ⊎_elim, inl, inr, ◌↔◌, ℕ, zero, suc, ◌+◌, ◌<◌, ◌≤◌, true, List, [], ◌∷◌, ◌++◌, map, length, take, drop, get_or, Contains, refl, sym, ap, ◌∙◌, subst, arith}
use Rattle.std.specs.Cmp.{ranked}
use Rattle.std.specs.List.{AllByRecursion, insert}
use Rattle.std.specs.Ordering.{is_lt, nat_cmp, ordering_reverse}
use Rattle.std.specs.declared.cmp.Ordering.{Ordering}
use Rattle.std.specs.declared.cmp.Ordering.TheVariants.{Less, Equal, Greater}
use Rattle.std.proofs.lemmas.List.{take-append-drop, take-map, drop-map, map-append}
use Rattle.std.proofs.lemmas.List.Elements.{Contains-append_left, Contains-append_right, Contains-append_cases}
use Rattle.ivy_base.specs.Naming.{key_cmp}
use Rattle.tree_model.proofs.Keys.{keys_total, exact_keys}
use Rattle.log_model.specs.Vector.{Stamp}
use Rattle.log_model.proofs.Lists.{here, there, in_cons, in_nothing}
use Rattle.dht_ids.specs.declared.judge.Judged.{Judged}
use Rattle.turn_model.specs.Candidates.{IsTriedBefore}
use Rattle.session_model.specs.Brought.{stamp_of}
use Rattle.session_model.specs.Walks.{AreTried, InTryingOrder}
use Rattle.log_fetch.specs.Order.{BeginsNotBefore, IsBehind, HasOneMore}

-- ---- one is tried before the other, or they are one

abbrev AreOrdered : Stamp → Stamp → Type 0
AreOrdered s t = IsTriedBefore s t ⊎ (IsTriedBefore t s ⊎ (s ≡ t))

by_name : (s t : Stamp) → s.seq ≡ t.seq → (o : Ordering) → key_cmp s.name t.name ≡ o → AreOrdered s t
by_name s t seqs Less e = inl (inr (seqs, ap is_lt e))
by_name s t seqs Equal e = let names : s.name ≡ t.name = exact_keys s.name t.name e in inr (inr (λ i. record { seq = seqs i; name = names i }))
by_name s t seqs Greater e = inr (inl (inr (sym seqs, ap is_lt (keys_total.antisymm t.name s.name ∙ ap ordering_reverse e))))

by_number : (s t : Stamp) → (o : Ordering) → o ≡ nat_cmp s.seq t.seq → AreOrdered s t
by_number s t Less e = inr (inl (inl (ranked s.seq t.seq Less e)))
by_number s t Equal e = by_name s t (ranked s.seq t.seq Equal e) (key_cmp s.name t.name) refl
by_number s t Greater e = inl (inl (ranked s.seq t.seq Greater e))

are_ordered : (s t : Stamp) → AreOrdered s t
are_ordered s t = by_number s t (nat_cmp s.seq t.seq) refl

is_less : (r : Ordering) → is_lt r ≡ true → r ≡ Less
is_less Less h = refl
is_less Equal h = cc
is_less Greater h = cc

before_all : (s t u : Stamp) → IsTriedBefore s t → IsTriedBefore t u → IsTriedBefore s u
before_all s t u (inl h) (inl g) = inl (omega (arith, h, g))
before_all s t u (inl h) (inr g) = let e = g.0 in inl (omega (arith, h, e))
before_all s t u (inr h) (inl g) = let e = h.0 in inl (omega (arith, g, e))
before_all s t u (inr h) (inr g) = inr (h.0 ∙ g.0, ap is_lt (keys_total.trans s.name t.name u.name (is_less _ h.1) (is_less _ g.1)))

-- ---- taken in at its place

module _ (P : Stamp → Type 0) where
  with_one : (front : List Stamp) (t : Stamp) (back : List Stamp) → AllByRecursion P (front ++ back) → P t → AllByRecursion P (front ++ t ∷ back)
  with_one [] t back h p = (p, h)
  with_one (f ∷ front) t back h p = (h.0, with_one front t back h.1 p)

  weaker : (Q : Stamp → Type 0) → ((s : Stamp) → P s → Q s) → (l : List Stamp) → AllByRecursion P l → AllByRecursion Q l
  weaker Q f [] h = tt
  weaker Q f (x ∷ xs) h = (f x h.0, weaker Q f xs h.1)

taken_in : (front : List Stamp) (t : Stamp) (back : List Stamp) → InTryingOrder (front ++ back) → AllByRecursion (λ s. IsTriedBefore s t) front → BeginsNotBefore t back → ((rest : List Stamp) → back ≡ t ∷ rest → ⊥)
    → InTryingOrder (front ++ t ∷ back)
taken_in [] t [] order before behind new = (tt, tt)
taken_in [] t (b ∷ back) order before behind new =
    let first : IsTriedBefore t b = ⊎_elim (λ h. h) (λ r. ⊎_elim (λ h. absurd (behind h)) (λ e. absurd (new back (ap (λ (x : Stamp). x ∷ back) (sym e)))) r) (are_ordered t b) in
    ((first, weaker (λ s. IsTriedBefore b s) (λ s. IsTriedBefore t s) (λ s h. before_all t b s first h) back order.0), order)
taken_in (f ∷ front) t back order before behind new =
    (with_one (λ s. IsTriedBefore f s) front t back order.0 before.0, taken_in front t back order.1 before.1 behind new)

-- the head is one of them
in_more : (front back : List Stamp) (t u : Stamp) → Contains (front ++ t ∷ back) u ↔ (Contains (front ++ back) u ⊎ (u ≡ t))
in_more front back t u = (
  λ h. ⊎_elim (λ l. inl (Contains-append_left front back u l)) (λ r. ⊎_elim (λ e. inr (sym e)) (λ i. inl (Contains-append_right front back u i)) (in_cons t back u r)) (Contains-append_cases front (t ∷ back) u h),
  λ h. ⊎_elim
      (λ i. ⊎_elim (λ l. Contains-append_left front (t ∷ back) u l) (λ r. Contains-append_right front (t ∷ back) u (there t back u r)) (Contains-append_cases front back u i))
      (λ e. subst (λ (x : Stamp). Contains (front ++ t ∷ back) x) (sym e) (Contains-append_right front (t ∷ back) t (here t back)))
      h,
)

-- ---- by places

drop_at : {X : Type 0} (xs : List X) (k : ℕ) (d : X) → k < length xs → drop k xs ≡ get_or xs k d ∷ drop (suc k) xs
drop_at [] k d h = absurd (omega (arith, h))
drop_at (x ∷ xs) zero d h = refl
drop_at (x ∷ xs) (suc k) d h = drop_at xs k d (omega (arith, h))

each_more : (P : Stamp → Type 0) (xs : List Judged) (k : ℕ) (d : Judged) → k < length xs → AllByRecursion P (take k (map stamp_of xs)) → P (stamp_of (get_or xs k d)) → AllByRecursion P (take (suc k) (map stamp_of xs))
each_more P [] k d h all p = absurd (omega (arith, h))
each_more P (x ∷ xs) zero d h all p = (p, tt)
each_more P (x ∷ xs) (suc k) d h all p = (all.0, each_more P xs k d (omega (arith, h)) all.1 p)

-- one place further
pub each_next : (P : Stamp → Type 0) (xs : List Judged) (k : ℕ) (d : Judged) → k < length xs → AllByRecursion P (take k (map stamp_of xs)) → P (stamp_of (get_or xs k d)) → AllByRecursion P (take (k + 1) (map stamp_of xs))
each_next P xs k d h all p = let e : suc k ≡ k + 1 = omega arith in subst (λ (n : ℕ). AllByRecursion P (take n (map stamp_of xs))) e (each_more P xs k d h all p)

one_judged : (a b : Judged) → stamp_of a ≡ stamp_of b → a ≡ b
one_judged a b e = λ i. record { seq = (e i).seq; name = (e i).name }

first_same : (s t : Stamp) (xs ys : List Stamp) → s ∷ xs ≡ t ∷ ys → s ≡ t
first_same s t xs ys e = cc e

cons_none : (t : Stamp) (ts : List Stamp) → [] ≡ t ∷ ts → ⊥
cons_none t ts e = cc e

in_or_out : (k n : ℕ) → (k < n) ⊎ (n ≤ k)
in_or_out k n = grind arith

length_stamps : (xs : List Judged) → length (map stamp_of xs) ≡ length xs
length_stamps [] = refl
length_stamps (x ∷ xs) = ap suc (length_stamps xs)

rest_at : (xs : List Judged) (k : ℕ) (d : Judged) → k < length xs → drop k (map stamp_of xs) ≡ stamp_of (get_or xs k d) ∷ map stamp_of (drop (suc k) xs)
rest_at xs k d h = drop-map stamp_of k xs ∙ ap (map stamp_of) (drop_at xs k d h)

rest_none : (xs : List Judged) (k : ℕ) → length xs ≤ k → drop k (map stamp_of xs) ≡ []
rest_none [] zero h = refl
rest_none [] (suc k) h = refl
rest_none (x ∷ xs) zero h = absurd (omega (arith, h))
rest_none (x ∷ xs) (suc k) h = rest_none xs k (omega (arith, h))

module _ (xs : List Judged) (head : Judged) (k : ℕ) where
  pub behind_here : k < length xs → AllByRecursion (λ t. IsTriedBefore t (stamp_of head)) (take k (map stamp_of xs)) → (IsTriedBefore (stamp_of (get_or xs k head)) (stamp_of head) → ⊥) → IsBehind (map stamp_of xs) (stamp_of head) k
  behind_here within all other = record {
    within = let e = length_stamps xs in omega (arith, within, e);
    before = all;
    behind = subst (BeginsNotBefore (stamp_of head)) (sym (rest_at xs k head within)) other;
  }

  pub behind_all : k ≤ length xs → length xs ≤ k → AllByRecursion (λ t. IsTriedBefore t (stamp_of head)) (take k (map stamp_of xs)) → IsBehind (map stamp_of xs) (stamp_of head) k
  behind_all within end all = record {
    within = let e = length_stamps xs in omega (arith, within, e);
    before = all;
    behind = subst (BeginsNotBefore (stamp_of head)) (sym (rest_none xs k end)) tt;
  }

  -- it stands there already
  pub one_already : InTryingOrder (map stamp_of xs) → k < length xs → get_or xs k head ≡ head → HasOneMore (map stamp_of xs) (stamp_of head) (map stamp_of xs)
  one_already order within same =
      let stands : Contains (map stamp_of xs) (stamp_of head) =
      subst (λ (l : List Stamp). Contains l (stamp_of head)) (take-append-drop k (map stamp_of xs))
      (Contains-append_right (take k (map stamp_of xs)) (drop k (map stamp_of xs)) (stamp_of head)
      (subst (λ (l : List Stamp). Contains l (stamp_of head)) (sym (rest_at xs k head within ∙ ap (λ (j : Judged). stamp_of j ∷ map stamp_of (drop (suc k) xs)) same)) (here (stamp_of head) (map stamp_of (drop (suc k) xs))))) in
      record {
        each = λ t. (λ h. inl h, λ h. ⊎_elim (λ i. i) (λ e. subst (λ (x : Stamp). Contains (map stamp_of xs) x) (sym e) stands) h);
        order = order;
      }

  -- it is put there
  pub one_put : InTryingOrder (map stamp_of xs) → IsBehind (map stamp_of xs) (stamp_of head) k → (k < length xs → get_or xs k head ≡ head → ⊥) → HasOneMore (map stamp_of xs) (stamp_of head) (map stamp_of (insert xs k head))
  one_put order is new =
      let whole : take k (map stamp_of xs) ++ drop k (map stamp_of xs) ≡ map stamp_of xs = take-append-drop k (map stamp_of xs) in
      let put : map stamp_of (insert xs k head) ≡ take k (map stamp_of xs) ++ stamp_of head ∷ drop k (map stamp_of xs) =
      map-append stamp_of (take k xs) (head ∷ drop k xs) ∙ ap (λ (l : List Stamp). l ++ stamp_of head ∷ map stamp_of (drop k xs)) (sym (take-map stamp_of k xs)) ∙ ap (λ (l : List Stamp). take k (map stamp_of xs) ++ stamp_of head ∷ l) (sym (drop-map stamp_of k xs)) in
      subst (λ (l : List Stamp). HasOneMore (map stamp_of xs) (stamp_of head) l) (sym put)
      (subst (λ (l : List Stamp). HasOneMore l (stamp_of head) (take k (map stamp_of xs) ++ stamp_of head ∷ drop k (map stamp_of xs))) whole (record {
        each = λ t. in_more (take k (map stamp_of xs)) (drop k (map stamp_of xs)) (stamp_of head) t;
        order =
            taken_in (take k (map stamp_of xs)) (stamp_of head) (drop k (map stamp_of xs)) (subst InTryingOrder (sym whole) order) is.before is.behind
            (λ rest e. ⊎_elim
            (λ within. new within (one_judged (get_or xs k head) head (first_same _ _ _ _ (sym (rest_at xs k head within) ∙ e))))
            (λ out. absurd (cons_none (stamp_of head) rest (sym (rest_none xs k out) ∙ e)))
            (in_or_out k (length xs)));
      }))

-- ---- all that are tried

-- no head yet
pub none_yet : (floor : ℕ) → AreTried floor [] []
none_yet floor = record { each = λ t. (λ h. absurd (in_nothing t h), λ h. h.0); order = tt }

-- one head more, that goes further than the floor
pub one_further : (floor : ℕ) (heads tried new : List Stamp) (t : Stamp) → AreTried floor heads tried → floor < t.seq → HasOneMore tried t new → AreTried floor (heads ++ t ∷ []) new
one_further floor heads tried new t are further more = record {
  each = λ u. (
    λ h. ⊎_elim
        (λ i. (Contains-append_left heads (t ∷ []) u ((are.each u).0 i).0, ((are.each u).0 i).1))
        (λ e. (subst (λ (x : Stamp). Contains (heads ++ t ∷ []) x) (sym e) (Contains-append_right heads (t ∷ []) t (here t [])), subst (λ (x : Stamp). floor < x.seq) (sym e) further))
        ((more.each u).0 h),
    λ h. (more.each u).1 (⊎_elim (λ i. inl ((are.each u).1 (i, h.1))) (λ i. ⊎_elim (λ e. inr (sym e)) (λ j. absurd (in_nothing u j)) (in_cons t [] u i)) (Contains-append_cases heads (t ∷ []) u h.0)),
  );
  order = more.order;
}

-- one that doesn't
pub one_within : (floor : ℕ) (heads tried : List Stamp) (t : Stamp) → AreTried floor heads tried → (floor < t.seq → ⊥) → AreTried floor (heads ++ t ∷ []) tried
one_within floor heads tried t are within = record {
  each = λ u. (
    λ h. (Contains-append_left heads (t ∷ []) u ((are.each u).0 h).0, ((are.each u).0 h).1),
    λ h. ⊎_elim
        (λ i. (are.each u).1 (i, h.1))
        (λ i. ⊎_elim (λ e. absurd (within (subst (λ (x : Stamp). floor < x.seq) (sym e) h.1))) (λ j. absurd (in_nothing u j)) (in_cons t [] u i))
        (Contains-append_cases heads (t ∷ []) u h.0),
  );
  order = are.order;
}

-- the heads so far, and the next one
next_heads : (xs : List Judged) (k : ℕ) (d : Judged) → k < length xs → map stamp_of (take k xs) ++ stamp_of (get_or xs k d) ∷ [] ≡ map stamp_of (take (suc k) xs)
next_heads [] k d h = absurd (omega (arith, h))
next_heads (x ∷ xs) zero d h = refl
next_heads (x ∷ xs) (suc k) d h = ap (λ (l : List Stamp). stamp_of x ∷ l) (next_heads xs k d (omega (arith, h)))

heads_next : (xs : List Judged) (k : ℕ) (d : Judged) → k < length xs → map stamp_of (take k xs) ++ stamp_of (get_or xs k d) ∷ [] ≡ map stamp_of (take (k + 1) xs)
heads_next xs k d h = let e : suc k ≡ k + 1 = omega arith in next_heads xs k d h ∙ ap (λ (n : ℕ). map stamp_of (take n xs)) e

module _ (floor : ℕ) (heads : List Judged) (k : ℕ) (d : Judged) (here_is : k < length heads) (tried : List Stamp) (are : AreTried floor (map stamp_of (take k heads)) tried) where
  pub further_so_far : (new : List Stamp) → floor < (get_or heads k d).seq → HasOneMore tried (stamp_of (get_or heads k d)) new → AreTried floor (map stamp_of (take (k + 1) heads)) new
  further_so_far new further more = subst (λ (l : List Stamp). AreTried floor l new) (heads_next heads k d here_is) (one_further floor (map stamp_of (take k heads)) tried new (stamp_of (get_or heads k d)) are further more)

  pub within_so_far : (get_or heads k d).seq ≤ floor → AreTried floor (map stamp_of (take (k + 1) heads)) tried
  within_so_far within =
      subst (λ (l : List Stamp). AreTried floor l tried) (heads_next heads k d here_is)
      (one_within floor (map stamp_of (take k heads)) tried (stamp_of (get_or heads k d)) are (λ lt. absurd (omega (arith, within, lt))))
