-- Entries whose keys rise, one by one.
use Rattle.std.proofs.Common.{◌≡◌, ℕ, suc, ◌+◌, ◌<◌, Bool, true, false, cond, List, [], ◌∷◌, ◌++◌, length, get_or, take, drop, Some, None, refl, sym, ap, ◌∙◌, arith}
use Rattle.std.specs.Cmp.{IsTotalOrder}
use Rattle.std.specs.FinMap.Entries.{find as value_at, put, by_order, is_sorted, below_all}
use Rattle.std.specs.Ordering.{is_lt, is_eq, eq_by_cmp, ordering_reverse}
use Rattle.std.specs.declared.cmp.Ordering.{Ordering}
use Rattle.std.specs.declared.cmp.Ordering.TheVariants.{Less, Equal, Greater}
use Rattle.std.proofs.Math.Seq.{take-suc}
use Rattle.std.proofs.lemmas.List.{take-append-drop}
use Rattle.tree_model.proofs.Sound.{both_true}
use Rattle.log_model.proofs.Lists.{both}

is_less : (o : Ordering) → is_lt o ≡ true → o ≡ Less
is_less Less h = refl
is_less Equal h = cc
is_less Greater h = cc

-- the part that is done, the next one and those after it
pub next_taken : {A : Type 0} (xs : List A) (i : ℕ) (d : A) → i < length xs → take (i + 1) xs ≡ take i xs ++ get_or xs i d ∷ []
next_taken xs i d within = let one_more : i + 1 ≡ suc i = omega arith in ap (λ n. take n xs) one_more ∙ take-suc xs i d within

pub split_next : {A : Type 0} (xs : List A) (i : ℕ) (d : A) → i < length xs → xs ≡ (take i xs ++ get_or xs i d ∷ []) ++ drop (i + 1) xs
split_next xs i d within = sym (take-append-drop (i + 1) xs) ∙ ap (λ l. l ++ drop (i + 1) xs) (next_taken xs i d within)

-- the same of the one that stands there
pub taken : {A : Type 0} (xs : List A) (i : ℕ) (x : A) → i < length xs → x ≡ get_or xs i x → take (i + 1) xs ≡ take i xs ++ x ∷ []
taken xs i x within is = next_taken xs i x within ∙ ap (λ y. take i xs ++ y ∷ []) (sym is)

pub split_at : {A : Type 0} (xs : List A) (i : ℕ) (x : A) → i < length xs → x ≡ get_or xs i x → xs ≡ (take i xs ++ x ∷ []) ++ drop (i + 1) xs
split_at xs i x within is = split_next xs i x within ∙ ap (λ y. (take i xs ++ y ∷ []) ++ drop (i + 1) xs) (sym is)

module _ {K X : Type 0} (R : K → K → Ordering) where
  below_front : (k : K) (xs ys : List (K × X)) → below_all R k (xs ++ ys) ≡ true → below_all R k xs ≡ true
  below_front k [] ys h = refl
  below_front k (x ∷ xs) ys h = let p = both_true (is_lt (R k x.0)) (below_all R k (xs ++ ys)) h in both (is_lt (R k x.0)) (below_all R k xs) p.0 (below_front k xs ys p.1)

  pub sorted_front : (xs ys : List (K × X)) → is_sorted R (xs ++ ys) ≡ true → is_sorted R xs ≡ true
  sorted_front [] ys h = refl
  sorted_front (x ∷ xs) ys h =
      let p = both_true (below_all R x.0 (xs ++ ys)) (is_sorted R (xs ++ ys)) h in
      both (below_all R x.0 xs) (is_sorted R xs) (below_front x.0 xs ys p.0) (sorted_front xs ys p.1)

  below_last : (q k : K) (v : X) (es : List (K × X)) → below_all R q (es ++ (k, v) ∷ []) ≡ true → is_lt (R q k) ≡ true
  below_last q k v [] h = (both_true (is_lt (R q k)) true h).0
  below_last q k v (e ∷ es) h = below_last q k v es (both_true (is_lt (R q e.0)) (below_all R q (es ++ (k, v) ∷ [])) h).1

  -- what is found in front is found
  pub found_front : (q : K) (xs ys : List (K × X)) (v : X) → value_at R q xs ≡ Some v → value_at R q (xs ++ ys) ≡ Some v
  found_front q [] ys v h = cc
  found_front q (x ∷ xs) ys v h = by (eq_by_cmp R q x.0) (found_front q xs ys v) h
    where
      by : (b : Bool) → (value_at R q xs ≡ Some v → value_at R q (xs ++ ys) ≡ Some v) → cond b (Some x.1) (value_at R q xs) ≡ Some v → cond b (Some x.1) (value_at R q (xs ++ ys)) ≡ Some v
      by true more e = e
      by false more e = more e

greater : {K : Type 0} (R : K → K → Ordering) → IsTotalOrder R → (q k : K) → is_lt (R q k) ≡ true → R k q ≡ Greater
greater R total q k less = total.antisymm k q ∙ ap ordering_reverse (is_less (R q k) less)

module _ {K X : Type 0} (R : K → K → Ordering) (total : IsTotalOrder R) where
  -- the last one isn't among those before it
  pub absent_last : (k : K) (v : X) (es : List (K × X)) → is_sorted R (es ++ (k, v) ∷ []) ≡ true → value_at R k es ≡ None
  absent_last k v [] h = refl
  absent_last k v (e ∷ es) h =
      let p = both_true (below_all R e.0 (es ++ (k, v) ∷ [])) (is_sorted R (es ++ (k, v) ∷ [])) h in
      ap (λ (b : Bool). cond b (Some e.1) (value_at R k es)) (ap is_eq (greater R total e.0 k (below_last R e.0 k v es p.0))) ∙ absent_last k v es p.1

  -- and is put after them
  pub put_last : (k : K) (v : X) (es : List (K × X)) → is_sorted R (es ++ (k, v) ∷ []) ≡ true → put R k v es ≡ es ++ (k, v) ∷ []
  put_last k v [] h = refl
  put_last k v (e ∷ es) h =
      let p = both_true (below_all R e.0 (es ++ (k, v) ∷ [])) (is_sorted R (es ++ (k, v) ∷ [])) h in
      ap (λ (o : Ordering). by_order o ((k, v) ∷ e ∷ es) ((e.0, v) ∷ es) (e ∷ put R k v es)) (greater R total e.0 k (below_last R e.0 k v es p.0)) ∙ ap (λ (l : List (K × X)). e ∷ l) (put_last k v es p.1)
