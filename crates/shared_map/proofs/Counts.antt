-- How many entries there are after a change.
use Rattle.std.proofs.Common.{◌≡◌, ℕ, ◌+◌, ◌-◌, Bool, true, false, not, cond, T, List, length, Option, Some, None, is_some, refl, sym, ap, ◌∙◌, subst, arith}
use Rattle.std.specs.Option.{option_map, is_none}
use Rattle.std.specs.Ordering.{eq_by_cmp}
use Rattle.std.specs.Cmp.{IsTotalOrder}
use Rattle.std.specs.declared.cmp.Ordering.{Ordering}
use Rattle.std.specs.FinMap.Entries.{find as value_at, put, where_key, is_sorted, is_sorted-put, is_sorted-where_key, length-put, length_without}

module _ {K V A : Type 0} (R : K → K → Ordering) (o : IsTotalOrder R) (k : K) (es t : List (K × V)) (n : ℕ) (f : A → V) (sorted : T (is_sorted R es)) (count : n ≡ length es) where
  -- a key that was not there
  pub new_count : (v : V) (old : Option A) → option_map f old ≡ value_at R k es → t ≡ put R k v es → is_none old ≡ true → T (is_sorted R t) × (n + 1 ≡ length t)
  new_count v None e is new =
      let more : length (put R k v es) ≡ length es + 1 = length-put R o k v es sorted ∙ ap (λ (x : Option V). cond (is_some x) (length es) (length es + 1)) (sym e) in
      (subst (λ l. T (is_sorted R l)) (sym is) (is_sorted-put R o k v es sorted), omega (arith, count, more, ap length is))
  new_count v (Some a) e is new = absurd (cc new)

  -- one that was
  pub same_count : (v : V) (old : Option A) → option_map f old ≡ value_at R k es → t ≡ put R k v es → is_none old ≡ false → T (is_sorted R t) × (n ≡ length t)
  same_count v None e is there = absurd (cc there)
  same_count v (Some a) e is there =
      let same : length (put R k v es) ≡ length es = length-put R o k v es sorted ∙ ap (λ (x : Option V). cond (is_some x) (length es) (length es + 1)) (sym e) in
      (subst (λ l. T (is_sorted R l)) (sym is) (is_sorted-put R o k v es sorted), omega (arith, count, same, ap length is))

  -- one that is taken out
  pub one_less : (old : Option A) (a : A) → option_map f old ≡ value_at R k es → old ≡ Some a → t ≡ where_key R (λ x. not (eq_by_cmp R k x)) es → T (is_sorted R t) × (n - 1 ≡ length t)
  one_less old a e some is =
      let there : Some (f a) ≡ value_at R k es = sym (ap (option_map f) some) ∙ e in
      let less : 1 + length (where_key R (λ x. not (eq_by_cmp R k x)) es) ≡ length es = ap (λ (x : Option V). cond (is_some x) 1 0 + length (where_key R (λ x. not (eq_by_cmp R k x)) es)) there ∙ length_without R o k es sorted in
      (subst (λ l. T (is_sorted R l)) (sym is) (is_sorted-where_key R (λ x. not (eq_by_cmp R k x)) es sorted), omega (arith, count, less, ap length is))

-- after an error
pub unchanged : {K V : Type 0} (R : K → K → Ordering) (es t : List (K × V)) (n : ℕ) → T (is_sorted R es) → n ≡ length es → t ≡ es → T (is_sorted R t) × (n ≡ length t)
unchanged R es t n sorted count is = (subst (λ l. T (is_sorted R l)) (sym is) sorted, omega (arith, count, ap length is))

twice_not : (b : Bool) → not (not b) ≡ b
twice_not true = refl
twice_not false = refl

pub is_none_by : {A : Type 0} (old : Option A) (b c : Bool) → is_some old ≡ not b → b ≡ c → is_none old ≡ c
is_none_by old b c e f = ap not e ∙ twice_not b ∙ f
