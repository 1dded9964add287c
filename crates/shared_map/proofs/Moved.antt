-- The words of the kit's `BTreeMap` and of this map for an entry that is taken out.
use Rattle.std.proofs.Common.{◌≡◌, Bool, true, false, not, cond, T, ◌&&◌, List, [], ◌∷◌, Some, None, refl, sym, ap, ◌∙◌}
use Rattle.std.specs.Ordering.{is_eq, is_lt, eq_by_cmp}
use Rattle.std.specs.Cmp.{IsTotalOrder}
use Rattle.std.specs.Map.{remove_entry}
use Rattle.std.specs.declared.cmp.Ordering.{Ordering}
use Rattle.std.specs.declared.cmp.Ordering.TheVariants.{Less, Equal, Greater}
use Rattle.std.specs.FinMap.Entries.{find as value_at, where_key, is_sorted, below_all}
use Rattle.shared_map.proofs.Sides.{kept_if_absent}

left_of : (a b : Bool) → T (a && b) → T a
left_of true b h = tt
left_of false b h = absurd h

right_of : (a b : Bool) → T (a && b) → T b
right_of true b h = h
right_of false b h = absurd h

less_is : (o : Ordering) → T (is_lt o) → o ≡ Less
less_is Less h = refl
less_is Equal h = absurd h
less_is Greater h = absurd h

equal_is : (o : Ordering) → is_eq o ≡ true → o ≡ Equal
equal_is Less h = cc h
equal_is Equal h = refl
equal_is Greater h = cc h

module _ {K V : Type 0} (R : K → K → Ordering) (o : IsTotalOrder R) (k : K) where
  none_tied : (j : K) (es : List (K × V)) → R k j ≡ Equal → T (below_all R j es) → value_at R k es ≡ None
  none_tied j [] eq h = refl
  none_tied j (e ∷ es) eq h = ap (λ r. cond (is_eq r) (Some e.1) (value_at R k es)) (o.congr k j e.0 eq ∙ less_is _ (left_of _ _ h)) ∙ none_tied j es eq (right_of _ _ h)

  pub remove_entry_is : (es : List (K × V)) → T (is_sorted R es) → remove_entry (eq_by_cmp R k) es ≡ where_key R (λ x. not (eq_by_cmp R k x)) es
  remove_entry_is [] h = refl
  remove_entry_is (e ∷ es) h = by_case (eq_by_cmp R k e.0) refl (remove_entry_is es (right_of _ _ h))
    where
      by_case : (b : Bool) → eq_by_cmp R k e.0 ≡ b → remove_entry (eq_by_cmp R k) es ≡ where_key R (λ x. not (eq_by_cmp R k x)) es
          → cond b es (e ∷ remove_entry (eq_by_cmp R k) es) ≡ cond (not b) (e ∷ where_key R (λ x. not (eq_by_cmp R k x)) es) (where_key R (λ x. not (eq_by_cmp R k x)) es)
      by_case true is again = sym (kept_if_absent R k es (none_tied e.0 es (equal_is _ is) (left_of _ _ h)))
      by_case false is again = ap (λ l. e ∷ l) again
