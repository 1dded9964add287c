-- Entries in order on both sides of one.
use Rattle.std.proofs.Common.{◌≡◌, suc, ◌+◌, ◌≤◌, Bool, true, false, not, cond, T, ◌&&◌, is_some, List, [], ◌∷◌, ◌++◌, length, Option, Some, None, refl, sym, ap, ◌∙◌, subst, arith}
use Rattle.std.specs.List.{AllByRecursion}
use Rattle.std.specs.Ordering.{is_eq, is_lt, is_le, eq_by_cmp, ordering_reverse}
use Rattle.std.specs.Cmp.{IsTotalOrder}
use Rattle.std.specs.declared.cmp.Ordering.{Ordering}
use Rattle.std.specs.declared.cmp.Ordering.TheVariants.{Less, Equal, Greater}
use Rattle.std.specs.FinMap.Entries.{find as value_at, put, where_key, by_order, is_sorted, below_all}

left_of : (a b : Bool) → T (a && b) → T a
left_of true b h = tt
left_of false b h = absurd h

right_of : (a b : Bool) → T (a && b) → T b
right_of true b h = h
right_of false b h = absurd h

both_of : (a b : Bool) → T a → T b → T (a && b)
both_of true b g h = h
both_of false b g h = g

less_is : (o : Ordering) → T (is_lt o) → o ≡ Less
less_is Less h = refl
less_is Equal h = absurd h
less_is Greater h = absurd h

module _ {K V : Type 0} where
  pub all_weaker : (P Q : K × V → Type 0) → ((e : K × V) → P e → Q e) → (es : List (K × V)) → AllByRecursion P es → AllByRecursion Q es
  all_weaker P Q f [] h = tt
  all_weaker P Q f (e ∷ es) h = (f e h.0, all_weaker P Q f es h.1)

module _ {K V : Type 0} (R : K → K → Ordering) where
  -- the key is before each
  abbrev pub IsAfter : K → List (K × V) → Type 0
  IsAfter k es = AllByRecursion (λ e. R k e.0 ≡ Less) es

  -- the key is after each
  abbrev pub IsBefore : K → List (K × V) → Type 0
  IsBefore k es = AllByRecursion (λ e. R k e.0 ≡ Greater) es

  after_all : (k : K) (es : List (K × V)) → T (below_all R k es) → IsAfter k es
  after_all k [] h = tt
  after_all k (e ∷ es) h = (less_is _ (left_of _ _ h), after_all k es (right_of _ _ h))

  below_left : (k : K) (xs ys : List (K × V)) → T (below_all R k (xs ++ ys)) → T (below_all R k xs)
  below_left k [] ys h = tt
  below_left k (x ∷ xs) ys h = both_of _ _ (left_of _ _ h) (below_left k xs ys (right_of _ _ h))

  below_one : (k : K) (xs ys : List (K × V)) (e : K × V) → T (below_all R k (xs ++ e ∷ ys)) → R k e.0 ≡ Less
  below_one k [] ys e h = less_is _ (left_of _ _ h)
  below_one k (x ∷ xs) ys e h = below_one k xs ys e (right_of _ _ h)

  pub sorted_left : (xs ys : List (K × V)) → T (is_sorted R (xs ++ ys)) → T (is_sorted R xs)
  sorted_left [] ys h = tt
  sorted_left (x ∷ xs) ys h = both_of _ _ (below_left x.0 xs ys (left_of _ _ h)) (sorted_left xs ys (right_of _ _ h))

  pub sorted_right : (xs ys : List (K × V)) (e : K × V) → T (is_sorted R (xs ++ e ∷ ys)) → T (is_sorted R ys)
  sorted_right [] ys e h = right_of _ _ h
  sorted_right (x ∷ xs) ys e h = sorted_right xs ys e (right_of _ _ h)

  after_one : (xs ys : List (K × V)) (e : K × V) → T (is_sorted R (xs ++ e ∷ ys)) → IsAfter e.0 ys
  after_one [] ys e h = after_all e.0 ys (left_of _ _ h)
  after_one (x ∷ xs) ys e h = after_one xs ys e (right_of _ _ h)

  before_one : (xs ys : List (K × V)) (e : K × V) → T (is_sorted R (xs ++ e ∷ ys)) → AllByRecursion (λ f. R f.0 e.0 ≡ Less) xs
  before_one [] ys e h = tt
  before_one (x ∷ xs) ys e h = (below_one x.0 xs ys e (left_of _ _ h), before_one xs ys e (right_of _ _ h))

  -- ---- what a key that is before or after all finds, and where it is put

  pub none_after : (k : K) (es : List (K × V)) → IsAfter k es → value_at R k es ≡ None
  none_after k [] h = refl
  none_after k (e ∷ es) h = ap (λ o. cond (is_eq o) (Some e.1) (value_at R k es)) h.0 ∙ none_after k es h.1

  find_before : (k : K) (xs ys : List (K × V)) → IsAfter k ys → value_at R k (xs ++ ys) ≡ value_at R k xs
  find_before k [] ys h = none_after k ys h
  find_before k (x ∷ xs) ys h = ap (λ r. cond (eq_by_cmp R k x.0) (Some x.1) r) (find_before k xs ys h)

  find_behind : (k : K) (xs ys : List (K × V)) → IsBefore k xs → value_at R k (xs ++ ys) ≡ value_at R k ys
  find_behind k [] ys h = refl
  find_behind k (x ∷ xs) ys h = ap (λ o. cond (is_eq o) (Some x.1) (value_at R k (xs ++ ys))) h.0 ∙ find_behind k xs ys h.1

  put_before : (k : K) (v : V) (xs ys : List (K × V)) (e : K × V) → R k e.0 ≡ Less → put R k v (xs ++ e ∷ ys) ≡ put R k v xs ++ e ∷ ys
  put_before k v [] ys e lt = ap (λ o. by_order o ((k, v) ∷ e ∷ ys) ((e.0, v) ∷ ys) (e ∷ put R k v ys)) lt
  put_before k v (x ∷ xs) ys e lt = by_case (R k x.0) (put_before k v xs ys e lt)
    where
      by_case : (o : Ordering) → put R k v (xs ++ e ∷ ys) ≡ put R k v xs ++ e ∷ ys
          → by_order o ((k, v) ∷ x ∷ xs ++ e ∷ ys) ((x.0, v) ∷ xs ++ e ∷ ys) (x ∷ put R k v (xs ++ e ∷ ys)) ≡ by_order o ((k, v) ∷ x ∷ xs) ((x.0, v) ∷ xs) (x ∷ put R k v xs) ++ e ∷ ys
      by_case Less again = refl
      by_case Equal again = refl
      by_case Greater again = ap (λ l. x ∷ l) again

  put_behind : (k : K) (v : V) (xs ys : List (K × V)) → IsBefore k xs → put R k v (xs ++ ys) ≡ xs ++ put R k v ys
  put_behind k v [] ys h = refl
  put_behind k v (x ∷ xs) ys h = ap (λ o. by_order o ((k, v) ∷ x ∷ xs ++ ys) ((x.0, v) ∷ xs ++ ys) (x ∷ put R k v (xs ++ ys))) h.0 ∙ ap (λ l. x ∷ l) (put_behind k v xs ys h.1)

  put_at : (k : K) (v : V) (ys : List (K × V)) (e : K × V) → R k e.0 ≡ Equal → put R k v (e ∷ ys) ≡ (e.0, v) ∷ ys
  put_at k v ys e eq = ap (λ o. by_order o ((k, v) ∷ e ∷ ys) ((e.0, v) ∷ ys) (e ∷ put R k v ys)) eq

  pub length_put : (k : K) (v : V) (es : List (K × V)) → length (put R k v es) ≤ length es + 1
  length_put k v [] = omega arith
  length_put k v (e ∷ es) = by_case (R k e.0) (length_put k v es)
    where
      by_case : (o : Ordering) → length (put R k v es) ≤ length es + 1 → length (by_order o ((k, v) ∷ e ∷ es) ((e.0, v) ∷ es) (e ∷ put R k v es)) ≤ suc (length es) + 1
      by_case Less again = omega arith
      by_case Equal again = omega arith
      by_case Greater again = omega (arith, again)

  pub put_length : (k : K) (v : V) (es : List (K × V)) → length es ≤ length (put R k v es)
  put_length k v [] = omega arith
  put_length k v (e ∷ es) = by_case (R k e.0) (put_length k v es)
    where
      by_case : (o : Ordering) → length es ≤ length (put R k v es) → suc (length es) ≤ length (by_order o ((k, v) ∷ e ∷ es) ((e.0, v) ∷ es) (e ∷ put R k v es))
      by_case Less again = omega arith
      by_case Equal again = omega arith
      by_case Greater again = omega (arith, again)

  -- ---- the entries whose keys pass a test

  kept : (p : K → Bool) (es : List (K × V)) → AllByRecursion (λ e. p e.0 ≡ true) es → where_key R p es ≡ es
  kept p [] h = refl
  kept p (e ∷ es) h = ap (λ b. cond b (e ∷ where_key R p es) (where_key R p es)) h.0 ∙ ap (λ l. e ∷ l) (kept p es h.1)

  dropped : (p : K → Bool) (es : List (K × V)) → AllByRecursion (λ e. p e.0 ≡ false) es → where_key R p es ≡ []
  dropped p [] h = refl
  dropped p (e ∷ es) h = ap (λ b. cond b (e ∷ where_key R p es) (where_key R p es)) h.0 ∙ dropped p es h.1

  in_two : (p : K → Bool) (xs ys : List (K × V)) → where_key R p (xs ++ ys) ≡ where_key R p xs ++ where_key R p ys
  in_two p [] ys = refl
  in_two p (x ∷ xs) ys = by_case (p x.0) (in_two p xs ys)
    where
      by_case : (b : Bool) → where_key R p (xs ++ ys) ≡ where_key R p xs ++ where_key R p ys
          → cond b (x ∷ where_key R p (xs ++ ys)) (where_key R p (xs ++ ys)) ≡ cond b (x ∷ where_key R p xs) (where_key R p xs) ++ where_key R p ys
      by_case true again = ap (λ l. x ∷ l) again
      by_case false again = again

  pub length_where : (p : K → Bool) (es : List (K × V)) → length (where_key R p es) ≤ length es
  length_where p [] = omega arith
  length_where p (e ∷ es) = by_case (p e.0) (length_where p es)
    where
      by_case : (b : Bool) → length (where_key R p es) ≤ length es → length (cond b (e ∷ where_key R p es) (where_key R p es)) ≤ suc (length es)
      by_case true again = omega (arith, again)
      by_case false again = omega (arith, again)

  -- a key that is not in the list
  pub kept_if_absent : (k : K) (es : List (K × V)) → value_at R k es ≡ None → where_key R (λ x. not (eq_by_cmp R k x)) es ≡ es
  kept_if_absent k [] none = refl
  kept_if_absent k (e ∷ es) none = by_case (eq_by_cmp R k e.0) none (kept_if_absent k es)
    where
      by_case : (b : Bool) → cond b (Some e.1) (value_at R k es) ≡ None → (value_at R k es ≡ None → where_key R (λ x. not (eq_by_cmp R k x)) es ≡ es)
          → cond (not b) (e ∷ where_key R (λ x. not (eq_by_cmp R k x)) es) (where_key R (λ x. not (eq_by_cmp R k x)) es) ≡ e ∷ es
      by_case true is again = absurd (subst (λ (o : Option V). T (is_some o)) is tt)
      by_case false is again = ap (λ l. e ∷ l) (again is)

  module _ (o : IsTotalOrder R) where
    after_less : (k j : K) (es : List (K × V)) → R k j ≡ Less → IsAfter j es → IsAfter k es
    after_less k j es lt h = all_weaker _ _ (λ e. o.trans k j e.0 lt) es h

    after_tied : (k j : K) (es : List (K × V)) → R k j ≡ Equal → IsAfter j es → IsAfter k es
    after_tied k j es eq h = all_weaker _ _ (λ e lt. o.congr k j e.0 eq ∙ lt) es h

    before_greater : (k j : K) (es : List (K × V)) → R k j ≡ Greater → AllByRecursion (λ e. R e.0 j ≡ Less) es → IsBefore k es
    before_greater k j es gt h = all_weaker _ _ (λ e lt. let back : R j k ≡ Less = o.antisymm j k ∙ ap ordering_reverse gt in o.antisymm k e.0 ∙ ap ordering_reverse (o.trans e.0 j k lt back)) es h

    before_tied : (k j : K) (es : List (K × V)) → R k j ≡ Equal → AllByRecursion (λ e. R e.0 j ≡ Less) es → IsBefore k es
    before_tied k j es eq h = all_weaker _ _ (λ e lt. o.congr k j e.0 eq ∙ o.antisymm j e.0 ∙ ap ordering_reverse lt) es h

    module _ (k : K) (xs ys : List (K × V)) (e : K × V) (sorted : T (is_sorted R (xs ++ e ∷ ys))) where
      pub find_left : R k e.0 ≡ Less → value_at R k (xs ++ e ∷ ys) ≡ value_at R k xs
      find_left lt = find_before k xs (e ∷ ys) (lt, after_less k e.0 ys lt (after_one xs ys e sorted))

      pub find_here : R k e.0 ≡ Equal → value_at R k (xs ++ e ∷ ys) ≡ Some e.1
      find_here eq = find_behind k xs (e ∷ ys) (before_tied k e.0 xs eq (before_one xs ys e sorted)) ∙ ap (λ r. cond (is_eq r) (Some e.1) (value_at R k ys)) eq

      pub find_right : R k e.0 ≡ Greater → value_at R k (xs ++ e ∷ ys) ≡ value_at R k ys
      find_right gt = find_behind k xs (e ∷ ys) (before_greater k e.0 xs gt (before_one xs ys e sorted)) ∙ ap (λ r. cond (is_eq r) (Some e.1) (value_at R k ys)) gt

      pub put_left : (v : V) → R k e.0 ≡ Less → put R k v (xs ++ e ∷ ys) ≡ put R k v xs ++ e ∷ ys
      put_left v lt = put_before k v xs ys e lt

      pub put_here : (v : V) → R k e.0 ≡ Equal → put R k v (xs ++ e ∷ ys) ≡ xs ++ (e.0, v) ∷ ys
      put_here v eq = put_behind k v xs (e ∷ ys) (before_tied k e.0 xs eq (before_one xs ys e sorted)) ∙ ap (λ l. xs ++ l) (put_at k v ys e eq)

      pub put_right : (v : V) → R k e.0 ≡ Greater → put R k v (xs ++ e ∷ ys) ≡ xs ++ e ∷ put R k v ys
      put_right v gt =
          put_behind k v xs (e ∷ ys) (before_greater k e.0 xs gt (before_one xs ys e sorted))
          ∙ ap (λ r. xs ++ by_order r ((k, v) ∷ e ∷ ys) ((e.0, v) ∷ ys) (e ∷ put R k v ys)) gt

      others : List (K × V) → List (K × V)
      others es = where_key R (λ x. not (eq_by_cmp R k x)) es

      others_after : (es : List (K × V)) → IsAfter k es → others es ≡ es
      unfolding others
      others_after es h = kept (λ x. not (eq_by_cmp R k x)) es (all_weaker _ _ (λ f lt. ap (λ r. not (is_eq r)) lt) es h)

      others_before : (es : List (K × V)) → IsBefore k es → others es ≡ es
      unfolding others
      others_before es h = kept (λ x. not (eq_by_cmp R k x)) es (all_weaker _ _ (λ f gt. ap (λ r. not (is_eq r)) gt) es h)

      pub without_left : R k e.0 ≡ Less → where_key R (λ x. not (eq_by_cmp R k x)) (xs ++ e ∷ ys) ≡ where_key R (λ x. not (eq_by_cmp R k x)) xs ++ e ∷ ys
      unfolding others
      without_left lt =
          in_two (λ x. not (eq_by_cmp R k x)) xs (e ∷ ys) ∙ ap (λ l. where_key R (λ x. not (eq_by_cmp R k x)) xs ++ l) (others_after (e ∷ ys) (lt, after_less k e.0 ys lt (after_one xs ys e sorted)))

      pub without_here : R k e.0 ≡ Equal → where_key R (λ x. not (eq_by_cmp R k x)) (xs ++ e ∷ ys) ≡ xs ++ ys
      unfolding others
      without_here eq =
          in_two (λ x. not (eq_by_cmp R k x)) xs (e ∷ ys)
          ∙ ap (λ l. l ++ others (e ∷ ys)) (others_before xs (before_tied k e.0 xs eq (before_one xs ys e sorted)))
          ∙ ap (λ r. xs ++ cond (not (is_eq r)) (e ∷ others ys) (others ys)) eq
          ∙ ap (λ l. xs ++ l) (others_after ys (after_tied k e.0 ys eq (after_one xs ys e sorted)))

      pub without_right : R k e.0 ≡ Greater → where_key R (λ x. not (eq_by_cmp R k x)) (xs ++ e ∷ ys) ≡ xs ++ e ∷ where_key R (λ x. not (eq_by_cmp R k x)) ys
      unfolding others
      without_right gt =
          in_two (λ x. not (eq_by_cmp R k x)) xs (e ∷ ys)
          ∙ ap (λ l. l ++ others (e ∷ ys)) (others_before xs (before_greater k e.0 xs gt (before_one xs ys e sorted)))
          ∙ ap (λ r. xs ++ cond (not (is_eq r)) (e ∷ others ys) (others ys)) gt

      from : List (K × V) → List (K × V)
      from es = where_key R (λ x. is_le (R k x)) es

      from_after : (es : List (K × V)) → IsAfter k es → from es ≡ es
      unfolding from
      from_after es h = kept (λ x. is_le (R k x)) es (all_weaker _ _ (λ f lt. ap is_le lt) es h)

      pub from_right : R k e.0 ≡ Greater → where_key R (λ x. is_le (R k x)) (xs ++ e ∷ ys) ≡ where_key R (λ x. is_le (R k x)) ys
      unfolding from
      from_right gt =
          in_two (λ x. is_le (R k x)) xs (e ∷ ys)
          ∙ ap (λ l. l ++ from (e ∷ ys)) (dropped (λ x. is_le (R k x)) xs (all_weaker _ _ (λ f g. ap is_le g) xs (before_greater k e.0 xs gt (before_one xs ys e sorted))))
          ∙ ap (λ r. cond (is_le r) (e ∷ from ys) (from ys)) gt

      from_less : R k e.0 ≡ Less → where_key R (λ x. is_le (R k x)) (xs ++ e ∷ ys) ≡ where_key R (λ x. is_le (R k x)) xs ++ e ∷ ys
      unfolding from
      from_less lt = in_two (λ x. is_le (R k x)) xs (e ∷ ys) ∙ ap (λ l. from xs ++ l) (from_after (e ∷ ys) (lt, after_less k e.0 ys lt (after_one xs ys e sorted)))

      from_tied : R k e.0 ≡ Equal → where_key R (λ x. is_le (R k x)) (xs ++ e ∷ ys) ≡ where_key R (λ x. is_le (R k x)) xs ++ e ∷ ys
      unfolding from
      from_tied eq =
          in_two (λ x. is_le (R k x)) xs (e ∷ ys) ∙ ap (λ l. from xs ++ l) (ap (λ r. cond (is_le r) (e ∷ from ys) (from ys)) eq ∙ ap (λ l. e ∷ l) (from_after ys (after_tied k e.0 ys eq (after_one xs ys e sorted))))

      pub from_left : (r : Ordering) → R k e.0 ≡ r → is_le r ≡ true → where_key R (λ x. is_le (R k x)) (xs ++ e ∷ ys) ≡ where_key R (λ x. is_le (R k x)) xs ++ e ∷ ys
      from_left Less is le = from_less is
      from_left Equal is le = from_tied is
      from_left Greater is le = absurd (subst T (sym le) tt)
