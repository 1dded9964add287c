-- Entries of which one value was changed: that of the entry in the midst, or one before or after it.
use Rattle.std.proofs.Common.{◌≡◌, T, List, ◌∷◌, ◌++◌, Option, Some, None, Result, Ok, Err, sym, ap, ◌∙◌, subst}
use Rattle.std.specs.Prelude.{OnOk, OnErr}
use Rattle.std.specs.Cmp.{IsTotalOrder}
use Rattle.std.specs.declared.cmp.Ordering.{Ordering}
use Rattle.std.specs.declared.cmp.Ordering.TheVariants.{Less, Equal, Greater}
use Rattle.std.specs.FinMap.Entries.{find as value_at, is_sorted, is_sorted-put}
use Rattle.shared_map.specs.Edits.{IsEditedAt, IsEdited}
use Rattle.shared_map.proofs.Sides.{find_left, find_here, find_right, put_left, put_here, put_right}

module _ {S K V : Type 0} (R : K → K → Ordering) (o : IsTotalOrder R) (makes : S → V → S → V → Type 0) (k : K) (s t : S) where
  module _ (xs ys : List (K × V)) (e : K × V) (sorted : T (is_sorted R (xs ++ e ∷ ys))) where
    pub edited_left : R k e.0 ≡ Less → (l : List (K × V)) → IsEdited R makes k s t xs l → IsEdited R makes k s t (xs ++ e ∷ ys) (l ++ e ∷ ys)
    edited_left lt l h = subst (IsEditedAt R makes k s t (xs ++ e ∷ ys) (l ++ e ∷ ys)) (sym (find_left R o k xs ys e sorted lt)) (by_case (value_at R k xs) h)
      where
        by_case : (x : Option V) → IsEditedAt R makes k s t xs l x → IsEditedAt R makes k s t (xs ++ e ∷ ys) (l ++ e ∷ ys) x
        by_case None is = (is.0, ap (λ l. l ++ e ∷ ys) is.1)
        by_case (Some v) is = (is.0, is.1, ap (λ l. l ++ e ∷ ys) is.2 ∙ sym (put_left R o k xs ys e sorted is.0 lt))

    pub edited_right : R k e.0 ≡ Greater → (l : List (K × V)) → IsEdited R makes k s t ys l → IsEdited R makes k s t (xs ++ e ∷ ys) (xs ++ e ∷ l)
    edited_right gt l h = subst (IsEditedAt R makes k s t (xs ++ e ∷ ys) (xs ++ e ∷ l)) (sym (find_right R o k xs ys e sorted gt)) (by_case (value_at R k ys) h)
      where
        by_case : (x : Option V) → IsEditedAt R makes k s t ys l x → IsEditedAt R makes k s t (xs ++ e ∷ ys) (xs ++ e ∷ l) x
        by_case None is = (is.0, ap (λ l. xs ++ e ∷ l) is.1)
        by_case (Some v) is = (is.0, is.1, ap (λ l. xs ++ e ∷ l) is.2 ∙ sym (put_right R o k xs ys e sorted is.0 gt))

    pub edited_here : R k e.0 ≡ Equal → (w : V) → makes s e.1 t w → IsEdited R makes k s t (xs ++ e ∷ ys) (xs ++ (e.0, w) ∷ ys)
    edited_here eq w made = subst (IsEditedAt R makes k s t (xs ++ e ∷ ys) (xs ++ (e.0, w) ∷ ys)) (sym (find_here R o k xs ys e sorted eq)) (w, made, sym (put_here R o k xs ys e sorted w eq))

  module _ (es fs : List (K × V)) (sorted : T (is_sorted R es)) where
    edited_at_sorted : (x : Option V) → IsEditedAt R makes k s t es fs x → T (is_sorted R fs)
    edited_at_sorted None is = subst (λ l. T (is_sorted R l)) (sym is.1) sorted
    edited_at_sorted (Some v) is = subst (λ l. T (is_sorted R l)) (sym is.2) (is_sorted-put R o k is.0 es sorted)

    -- the keys ascend as before
    pub edited_sorted : IsEdited R makes k s t es fs → T (is_sorted R fs)
    edited_sorted is = edited_at_sorted (value_at R k es) is

    -- so they do, whatever came of the edit
    pub still_sorted : {A E : Type 0} (r : Result A E) → OnOk r (IsEdited R makes k s t es fs) → OnErr r ((t ≡ s) × (fs ≡ es)) → T (is_sorted R fs)
    still_sorted (Ok a) ok err = edited_sorted ok
    still_sorted (Err e) ok err = subst (λ l. T (is_sorted R l)) (sym err.1) sorted
