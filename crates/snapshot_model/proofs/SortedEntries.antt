-- Entries whose keys rise: each is found by its key.
use Rattle.std.proofs.Common.{◌≡◌, Bool, true, false, cond, List, [], ◌∷◌, Some, refl, sym, ap, ◌∙◌, subst}
use Rattle.std.specs.List.{AllByRecursion}
use Rattle.std.specs.Cmp.{IsTotalOrder, tied_itself}
use Rattle.std.specs.FinMap.Entries.{find as value_at, is_sorted, below_all}
use Rattle.std.specs.Ordering.{is_lt, is_eq, eq_by_cmp, ordering_reverse}
use Rattle.std.specs.declared.cmp.Ordering.{Ordering}
use Rattle.std.specs.declared.cmp.Ordering.TheVariants.{Less, Equal, Greater}
use Rattle.tree_model.proofs.Sound.{both_true}
use Rattle.log_model.proofs.Lists.{each, each_from}

is_less : (o : Ordering) → is_lt o ≡ true → o ≡ Less
is_less Less h = refl
is_less Equal h = cc
is_less Greater h = cc

module _ {K : Type 0} (R : K → K → Ordering) (total : IsTotalOrder R) where
  -- a key isn't tied with a lower one, nor below itself
  not_tied : (a b : K) → is_lt (R a b) ≡ true → eq_by_cmp R b a ≡ false
  not_tied a b less = ap is_eq (total.antisymm b a ∙ ap ordering_reverse (is_less (R a b) less))

  pub not_below_itself : (a b : K) → is_lt (R a b) ≡ true → a ≡ b → ⊥
  not_below_itself a b less e =
      let tied : is_lt (R a a) ≡ false = ap is_lt (tied_itself total a) in
      let itself : is_lt (R a a) ≡ true = subst (λ (k : K). is_lt (R a k) ≡ true) (sym e) less in
      cc (sym itself ∙ tied)

module _ {K X : Type 0} (R : K → K → Ordering) where
  pub all_behind : (k : K) (es : List (K × X)) → below_all R k es ≡ true → AllByRecursion (λ e. is_lt (R k e.0) ≡ true) es
  all_behind k [] h = tt
  all_behind k (e ∷ es) h = let parts = both_true (is_lt (R k e.0)) (below_all R k es) h in (parts.0, all_behind k es parts.1)

module _ {K X : Type 0} (R : K → K → Ordering) (total : IsTotalOrder R) where
  -- each entry is found by its key
  pub each_found : (es : List (K × X)) → is_sorted R es ≡ true → AllByRecursion (λ e. value_at R e.0 es ≡ Some e.1) es
  each_found [] h = tt
  each_found (e ∷ es) h =
      let parts = both_true (below_all R e.0 es) (is_sorted R es) h in
      let after = all_behind R e.0 es parts.0 in
      let found = each_found es parts.1 in (
        ap (λ (b : Bool). cond b (Some e.1) (value_at R e.0 es)) (ap is_eq (tied_itself total e.0)),
        each_from (λ (d : K × X). value_at R d.0 (e ∷ es) ≡ Some d.1) es (λ d c.
            ap (λ (b : Bool). cond b (Some e.1) (value_at R d.0 es)) (not_tied R total e.0 d.0 (each (λ (x : K × X). is_lt (R e.0 x.0) ≡ true) es d after c))
            ∙ each (λ (x : K × X). value_at R x.0 es ≡ Some x.1) es d found c),
      )
