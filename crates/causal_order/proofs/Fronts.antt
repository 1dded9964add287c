-- The front of a union is the join of the fronts: at each log both are the latest of all that the records cite.
use Rattle.std.proofs.Common.{◌≡◌, ◌⊎◌, inl, inr, ⊎_elim, Option, Some, None, Bool, true, false, cond, List, [], ◌∷◌, ◌++◌, map, refl, sym, ap, ◌∙◌, subst, Contains}
use Rattle.std.specs.Prelude.{fold}
use Rattle.std.specs.Cmp.{IsTotalOrder, ranked, tied_itself, upto}
use Rattle.std.specs.Ordering.{eq_by_cmp, is_lt, is_eq, is_gt, nat_cmp, ordering_then, ordering_reverse}
use Rattle.std.specs.declared.cmp.Ordering.{Ordering}
use Rattle.std.specs.declared.cmp.Ordering.TheVariants.{Less, Equal, Greater}
use Rattle.std.specs.FinMap.Entries.{by_order, is_sorted, below_all, same_entries}
use Rattle.std.proofs.lemmas.Cmp.{on_total, then_total, back_total, nat_cmp_total}
use Rattle.std.proofs.lemmas.List.Elements.{Contains-append_left, Contains-append_right, Contains-append_cases}
use Rattle.ivy_base.specs.declared.key.Key.{Key}
use Rattle.ivy_base.specs.Naming.{key_cmp}
use Rattle.tree_model.proofs.Keys.{keys_total, exact_keys, same_key_is, same_key_itself}
use Rattle.tree_model.proofs.Sound.{both_true, from_test}
use Rattle.log_model.specs.Vector.{Stamp, Entry, Vector, stamp_at, later, later_or, with_entry, join}
use Rattle.log_model.specs.Record.{Record}
use Rattle.log_model.specs.Rank.{full_vector, front}
use Rattle.log_model.specs.Replay.{in_order}
use Rattle.log_model.proofs.Lists.{here, there, in_cons, in_nothing}
use Rattle.log_model.proofs.Sets.{OneEach, both_equal, in_order_in, in_order_has, same_rank_is}
use Rattle.log_model.proofs.Vectors.{stamp_at-with_entry}
use Rattle.log_model.proofs.Weights.{Sorted, sorted_with_entry, sorted_front}
use Rattle.causal_order.specs.Laws.{FrontsJoin}

-- ---- the order of the stamps of one log: the later one is the greater

abbrev stamp_cmp : Stamp → Stamp → Ordering
stamp_cmp s t = ordering_then (nat_cmp s.seq t.seq) (key_cmp t.name s.name)

stamps_total : IsTotalOrder stamp_cmp
stamps_total = then_total (on_total (λ s. s.seq) nat_cmp_total) (on_total (λ s. s.name) (back_total keys_total))

exact_stamps : (s t : Stamp) → stamp_cmp s t ≡ Equal → s ≡ t
exact_stamps s t e =
    let parts = both_equal (nat_cmp s.seq t.seq) (key_cmp t.name s.name) e in
    let seqs : s.seq ≡ t.seq = ranked s.seq t.seq Equal (sym parts.0) in
    let names : s.name ≡ t.name = sym (exact_keys t.name s.name parts.1) in
    λ i. record { seq = seqs i; name = names i }

abbrev AtMost : Stamp → Stamp → Type 0
AtMost s t = is_gt (stamp_cmp s t) ≡ false

itself : (s : Stamp) → AtMost s s
itself s = ap is_gt (tied_itself stamps_total s)

not_greater_back : (o : Ordering) → is_lt o ≡ false → is_gt (ordering_reverse o) ≡ false
not_greater_back Less h = cc
not_greater_back Equal h = refl
not_greater_back Greater h = refl

less_not_greater : (o : Ordering) → is_lt o ≡ true → is_gt o ≡ false
less_not_greater Less h = refl
less_not_greater Equal h = cc
less_not_greater Greater h = cc

level : (o : Ordering) → is_gt o ≡ false → is_gt (ordering_reverse o) ≡ false → o ≡ Equal
level Less h g = cc
level Equal h g = refl
level Greater h g = cc

one_stamp : (s t : Stamp) → AtMost s t → AtMost t s → s ≡ t
one_stamp s t h g = exact_stamps s t (level (stamp_cmp s t) h (ap is_gt (sym (stamps_total.antisymm t s)) ∙ g))

chosen : (o r : Ordering) (s t : Stamp) → by_order o t (cond (is_lt r) t s) s ≡ cond (is_lt (ordering_then o r)) t s
chosen Less r s t = refl
chosen Equal r s t = refl
chosen Greater r s t = refl

-- the stamp is one of the two, and none of them is later
abbrev IsLaterOf : Stamp → Stamp → Stamp → Type 0
IsLaterOf s t x = AtMost s x × AtMost t x × ((x ≡ s) ⊎ (x ≡ t))

later_is : (s t : Stamp) → IsLaterOf s t (later s t)
later_is s t = subst (IsLaterOf s t) (sym (chosen (nat_cmp s.seq t.seq) (key_cmp t.name s.name) s t)) (by (is_lt (stamp_cmp s t)) refl)
  where
    by : (b : Bool) → is_lt (stamp_cmp s t) ≡ b → IsLaterOf s t (cond b t s)
    by true e = (less_not_greater (stamp_cmp s t) e, itself t, inr refl)
    by false e = (itself s, ap is_gt (stamps_total.antisymm t s) ∙ not_greater_back (stamp_cmp s t) e, inl refl)

-- ---- the latest of a set of stamps

abbrev Reaches : Option Stamp → Stamp → Type 0
Reaches None t = ⊥
Reaches (Some s) t = AtMost t s

record IsLatest (P : Stamp → Type 0) (o : Option Stamp) : Type 0 where
  upper : (t : Stamp) → P t → Reaches o t
  held : (t : Stamp) → o ≡ Some t → P t

reaches_down : (o : Option Stamp) (s t : Stamp) → AtMost t s → Reaches o s → Reaches o t
reaches_down None s t h g = g
reaches_down (Some x) s t h g = upto stamps_total t s x h g

is_reached : (o : Option Stamp) (t : Stamp) → Reaches o t → (s : Stamp) × (o ≡ Some s) × AtMost t s
is_reached None t h = absurd h
is_reached (Some s) t h = (s, refl, h)

one_latest : (P : Stamp → Type 0) (o p : Option Stamp) → IsLatest P o → IsLatest P p → o ≡ p
one_latest P None None h g = refl
one_latest P None (Some y) h g = absurd (h.upper y (g.held y refl))
one_latest P (Some x) None h g = absurd (g.upper x (h.held x refl))
one_latest P (Some x) (Some y) h g = ap Some (one_stamp x y (g.upper x (h.held x refl)) (h.upper y (g.held y refl)))

same_latest : (P Q : Stamp → Type 0) (o : Option Stamp) → ((t : Stamp) → P t → Q t) → ((t : Stamp) → Q t → P t) → IsLatest P o → IsLatest Q o
same_latest P Q o to from h = record { upper = λ t q. h.upper t (from t q); held = λ t e. to t (h.held t e) }

same_some : (s t : Stamp) → Some s ≡ Some t → s ≡ t
same_some s t e = cc

latest_or : (P : Stamp → Type 0) (o : Option Stamp) (s : Stamp) → IsLatest P o → IsLatest (λ t. P t ⊎ (s ≡ t)) (Some (later_or o s))
latest_or P None s h = record {
  upper = λ t. ⊎_elim (λ p. absurd (h.upper t p)) (λ e. subst (λ (x : Stamp). AtMost x s) e (itself s));
  held = λ t e. inr (same_some s t e);
}
latest_or P (Some x) s h =
    let l = later_is x s in
    record {
      upper = λ t. ⊎_elim (λ p. upto stamps_total t x (later x s) (h.upper t p) l.0) (λ e. subst (λ (y : Stamp). AtMost y (later x s)) e l.1);
      held = λ t e. let same : later x s ≡ t = same_some (later x s) t e in ⊎_elim (λ f. inl (subst P (sym f ∙ same) (h.held x refl))) (λ f. inr (sym f ∙ same)) l.2;
    }

-- ---- keys below those of a vector

is_below : (q : Key) (v : Vector) (e : Entry) → below_all key_cmp q v ≡ true → Contains v e → is_lt (key_cmp q e.0) ≡ true
is_below q [] e h c = absurd (in_nothing e c)
is_below q (d ∷ v) e h c =
    let parts = both_true (is_lt (key_cmp q d.0)) (below_all key_cmp q v) h in
    ⊎_elim (λ same. subst (λ (x : Entry). is_lt (key_cmp q x.0) ≡ true) same parts.0) (λ c. is_below q v e parts.1 c) (in_cons d v e c)

above_is_apart : (o : Ordering) → is_lt o ≡ true → is_eq (ordering_reverse o) ≡ false
above_is_apart Less h = refl
above_is_apart Equal h = cc
above_is_apart Greater h = cc

-- ---- what a vector has of a log, joined with another one

module _ (k : Key) where
  latest-with_entry : (P : Stamp → Type 0) (v : Vector) (e : Entry) → IsLatest P (stamp_at v k) → IsLatest (λ t. P t ⊎ (e ≡ (k, t))) (stamp_at (with_entry v e) k)
  latest-with_entry P v e h = subst (IsLatest (λ t. P t ⊎ (e ≡ (k, t)))) (sym (stamp_at-with_entry v e k)) (by (eq_by_cmp key_cmp k e.0) refl)
    where
      by : (b : Bool) → eq_by_cmp key_cmp k e.0 ≡ b → IsLatest (λ t. P t ⊎ (e ≡ (k, t))) (cond b (Some (later_or (stamp_at v e.0) e.1)) (stamp_at v k))
      by true tied =
          let keys : k ≡ e.0 = same_key_is k e.0 tied in
          same_latest (λ t. P t ⊎ (e.1 ≡ t)) (λ t. P t ⊎ (e ≡ (k, t))) (Some (later_or (stamp_at v e.0) e.1))
          (λ t. ⊎_elim (λ p. inl p) (λ same. inr (λ i. (sym keys i, same i))))
          (λ t. ⊎_elim (λ p. inl p) (λ same. inr (ap (λ x. x.1) same)))
          (latest_or P (stamp_at v e.0) e.1 (subst (λ (x : Key). IsLatest P (stamp_at v x)) keys h))
      by false apart = record {
        upper = λ t. ⊎_elim (λ p. h.upper t p) (λ same. let tied = subst (λ (x : Entry). eq_by_cmp key_cmp k x.0 ≡ false) same apart in let own = same_key_itself k in absurd cc);
        held = λ t f. inl (h.held t f);
      }

  latest-join : (P : Stamp → Type 0) (v w : Vector) → IsLatest P (stamp_at v k) → IsLatest (λ t. P t ⊎ Contains w (k, t)) (stamp_at (join v w) k)
  latest-join P v [] h = same_latest P (λ t. P t ⊎ Contains {X = Entry} [] (k, t)) (stamp_at v k) (λ t p. inl p) (λ t. ⊎_elim (λ p. p) (λ c. absurd (in_nothing (k, t) c))) h
  latest-join P v (e ∷ w) h = same_latest (λ t. (P t ⊎ (e ≡ (k, t))) ⊎ Contains w (k, t)) (λ t. P t ⊎ Contains (e ∷ w) (k, t)) (stamp_at (join (with_entry v e) w) k)
      (λ t. ⊎_elim (⊎_elim (λ p. inl p) (λ same. inr (subst (λ (x : Entry). Contains (e ∷ w) x) same (here e w)))) (λ c. inr (there e w (k, t) c)))
      (λ t. ⊎_elim (λ p. inl (inl p)) (λ c. ⊎_elim (λ same. inl (inr same)) (λ d. inr d) (in_cons e w (k, t) c)))
      (latest-join (λ t. P t ⊎ (e ≡ (k, t))) (with_entry v e) w (latest-with_entry P v e h))

  -- the full vector of a record of the list has the stamp there
  abbrev Cited : List Record → Stamp → Type 0
  Cited s t = (r : Record) × Contains s r × Contains (full_vector r) (k, t)

  first_cites : (r : Record) (s : List Record) (t : Stamp) → Contains (full_vector r) (k, t) → Cited (r ∷ s) t
  first_cites r s t c = (r, here r s, c)

  rest_cites : (r : Record) (s : List Record) (t : Stamp) → Cited s t → Cited (r ∷ s) t
  rest_cites r s t c = (c.0, there r s c.0 c.1, c.2)

  who_cites : (r : Record) (s : List Record) (t : Stamp) → Cited (r ∷ s) t → Contains (full_vector r) (k, t) ⊎ Cited s t
  who_cites r s t c = ⊎_elim (λ same. inl (subst (λ (x : Record). Contains (full_vector x) (k, t)) (sym same) c.2)) (λ d. inr (c.0, d, c.2)) (in_cons r s c.0 c.1)

  latest-joins : (P : Stamp → Type 0) (v : Vector) (s : List Record) → IsLatest P (stamp_at v k) → IsLatest (λ t. P t ⊎ Cited s t) (stamp_at (fold join v (map full_vector s)) k)
  latest-joins P v [] h = same_latest P (λ t. P t ⊎ Cited [] t) (stamp_at v k) (λ t p. inl p) (λ t. ⊎_elim (λ p. p) (λ c. absurd (in_nothing c.0 c.1))) h
  latest-joins P v (r ∷ s) h = same_latest (λ t. (P t ⊎ Contains (full_vector r) (k, t)) ⊎ Cited s t) (λ t. P t ⊎ Cited (r ∷ s) t) (stamp_at (fold join (join v (full_vector r)) (map full_vector s)) k)
      (λ t. ⊎_elim (⊎_elim (λ p. inl p) (λ c. inr (first_cites r s t c))) (λ c. inr (rest_cites r s t c)))
      (λ t. ⊎_elim (λ p. inl (inl p)) (λ c. ⊎_elim (λ d. inl (inr d)) (λ d. inr d) (who_cites r s t c)))
      (latest-joins (λ t. P t ⊎ Contains (full_vector r) (k, t)) (join v (full_vector r)) s (latest-join P v (full_vector r) h))

  none_yet : IsLatest (λ t. ⊥) (stamp_at [] k)
  none_yet = record { upper = λ t p. absurd p; held = λ t e. cc }

  latest-front : (s : List Record) → IsLatest (Cited s) (stamp_at (front s) k)
  latest-front s = same_latest (λ t. ⊥ ⊎ Cited s t) (Cited s) (stamp_at (front s) k) (λ t. ⊎_elim (λ p. absurd p) (λ c. c)) (λ t c. inr c) (latest-joins (λ t. ⊥) [] s none_yet)

  -- ---- an entry of a sorted vector is the one of its log

  pub stamp_there : (v : Vector) (t : Stamp) → Sorted v → Contains v (k, t) → stamp_at v k ≡ Some t
  stamp_there [] t h c = absurd (in_nothing (k, t) c)
  stamp_there (d ∷ v) t h c =
      let parts = both_true (below_all key_cmp d.0 v) (is_sorted key_cmp v) h in
      ⊎_elim
      (λ same. ap (λ (x : Entry). cond (eq_by_cmp key_cmp k x.0) (Some x.1) (stamp_at v k)) same ∙ ap (λ b. cond b (Some t) (stamp_at v k)) (same_key_itself k))
      (λ c. ap (λ b. cond b (Some d.1) (stamp_at v k)) (ap is_eq (keys_total.antisymm k d.0) ∙ above_is_apart (key_cmp d.0 k) (is_below d.0 v (k, t) parts.0 c)) ∙ stamp_there v t parts.1 c)
      (in_cons d v (k, t) c)

  in_vector : (v : Vector) (t : Stamp) → stamp_at v k ≡ Some t → Contains v (k, t)
  in_vector [] t h = cc
  in_vector (d ∷ v) t h = by (eq_by_cmp key_cmp k d.0) refl h (λ e. in_vector v t e)
    where
      by : (b : Bool) → eq_by_cmp key_cmp k d.0 ≡ b → cond b (Some d.1) (stamp_at v k) ≡ Some t → (stamp_at v k ≡ Some t → Contains v (k, t)) → Contains (d ∷ v) (k, t)
      by true tied e again = let keys = same_key_is k d.0 tied in let stamps = same_some d.1 t e in subst (λ (x : Entry). Contains (d ∷ v) x) (λ i. (sym keys i, stamps i)) (here d v)
      by false apart e again = there d v (k, t) (again e)

  -- ---- of the union

  left_cites : (s t : List Record) (x : Stamp) → Cited s x → Cited (s ++ t) x
  left_cites s t x c = (c.0, Contains-append_left s t c.0 c.1, c.2)

  right_cites : (s t : List Record) (x : Stamp) → Cited t x → Cited (s ++ t) x
  right_cites s t x c = (c.0, Contains-append_right s t c.0 c.1, c.2)

  latest_of_both : (s t : List Record) → IsLatest (Cited (s ++ t)) (stamp_at (join (front s) (front t)) k)
  latest_of_both s t =
      let left = latest-front s in
      let right = latest-front t in
      let joined = latest-join (Cited s) (front s) (front t) left in
      record {
        upper = λ x c. ⊎_elim
            (λ d. joined.upper x (inl (c.0, d, c.2)))
            (λ d. let y = is_reached (stamp_at (front t) k) x (right.upper x (c.0, d, c.2)) in reaches_down (stamp_at (join (front s) (front t)) k) y.0 x y.2 (joined.upper y.0 (inr (in_vector (front t) y.0 y.1))))
            (Contains-append_cases s t c.0 c.1);
        held = λ x e. ⊎_elim
            (λ c. left_cites s t x c)
            (λ c. right_cites s t x (right.held x (stamp_there (front t) x (sorted_front t) c)))
            (joined.held x e);
      }

  latest_of_union : (s t : List Record) → ((r : Record) → Contains (s ++ t) r → Contains (in_order (s ++ t)) r) → IsLatest (Cited (s ++ t)) (stamp_at (front (in_order (s ++ t))) k)
  latest_of_union s t has = same_latest (Cited (in_order (s ++ t))) (Cited (s ++ t)) (stamp_at (front (in_order (s ++ t))) k)
      (λ x c. (c.0, in_order_in (s ++ t) c.0 c.1, c.2)) (λ x c. (c.0, has c.0 c.1, c.2)) (latest-front (in_order (s ++ t)))

sorted_join : (v w : Vector) → Sorted v → Sorted (join v w)
sorted_join v [] h = h
sorted_join v (e ∷ w) h = sorted_join (with_entry v e) w (sorted_with_entry v e h)

union_has : (xs : List Record) → OneEach xs → (q : Record) → Contains xs q → Contains (in_order xs) q
union_has xs single q c =
    let w = in_order_has xs q c in
    let same = same_rank_is q w.0 w.2 in
    subst (λ (y : Record). Contains (in_order xs) y) (sym (single q w.0 c (in_order_in xs w.0 w.1) same.0 same.1)) w.1

-- it holds of any lists of records: that they are closed isn't needed
pub join_of_fronts : (s t : List Record) → OneEach (s ++ t) → front (in_order (s ++ t)) ≡ join (front s) (front t)
join_of_fronts s t single =
    same_entries key_cmp keys_total exact_keys (front (in_order (s ++ t))) (join (front s) (front t))
    (from_test _ (sorted_front (in_order (s ++ t)))) (from_test _ (sorted_join (front s) (front t) (sorted_front s)))
    (λ k. one_latest (Cited k (s ++ t)) _ _ (latest_of_union k s t (union_has (s ++ t) single)) (latest_of_both k s t))

pub fronts_join : FrontsJoin
fronts_join = join_of_fronts

-- ---- records joined in any order

at_stamp : (o : Option Stamp) → IsLatest (λ t. o ≡ Some t) o
at_stamp o = record {
  upper = λ t e. subst (λ (p : Option Stamp). Reaches p t) (sym e) (itself t);
  held = λ t e. e;
}

sorted_records : (v : Vector) (s : List Record) → Sorted v → Sorted (fold join v (map full_vector s))
sorted_records v [] h = h
sorted_records v (r ∷ s) h = sorted_records (join v (full_vector r)) s (sorted_join v (full_vector r) h)

-- onto a vector the same records may be joined in any order, and each any number of times
pub joins_any_order : (v : Vector) (s t : List Record) → Sorted v → ((r : Record) → Contains s r → Contains t r) → ((r : Record) → Contains t r → Contains s r)
    → fold join v (map full_vector s) ≡ fold join v (map full_vector t)
joins_any_order v s t sorted to from =
    same_entries key_cmp keys_total exact_keys (fold join v (map full_vector s)) (fold join v (map full_vector t))
    (from_test _ (sorted_records v s sorted)) (from_test _ (sorted_records v t sorted))
    (λ k. one_latest (λ x. (stamp_at v k ≡ Some x) ⊎ Cited k t x) _ _ (moved k) (latest-joins k (λ x. stamp_at v k ≡ Some x) v t (at_stamp (stamp_at v k))))
  where
    moved : (k : Key) → IsLatest (λ x. (stamp_at v k ≡ Some x) ⊎ Cited k t x) (stamp_at (fold join v (map full_vector s)) k)
    moved k = same_latest (λ x. (stamp_at v k ≡ Some x) ⊎ Cited k s x) (λ x. (stamp_at v k ≡ Some x) ⊎ Cited k t x) (stamp_at (fold join v (map full_vector s)) k)
        (λ x. ⊎_elim (λ p. inl p) (λ c. inr (c.0, to c.0 c.1, c.2)))
        (λ x. ⊎_elim (λ p. inl p) (λ c. inr (c.0, from c.0 c.1, c.2)))
        (latest-joins k (λ x. stamp_at v k ≡ Some x) v s (at_stamp (stamp_at v k)))
