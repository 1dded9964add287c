-- Whether an ask is lost, by what a search of the list says.
use Rattle.std.proofs.Common.{◌≡◌, ℕ, zero, suc, ◌<◌, Bool, true, false, ◌||◌, List, [], ◌∷◌, length, get_or, refl, sym, ◌∙◌, subst, arith, nat_eq}
use Rattle.std.specs.Prelude.{Contains}
use Rattle.std.specs.List.{list_any}
use Rattle.std.proofs.lemmas.Bool.{eqb-true, eq-eqb}
use Rattle.std.proofs.lemmas.Map.Views.{Contains-from_any}

either_left : (a b : Bool) → a ≡ true → (a || b) ≡ true
either_left true b e = refl
either_left false b e = absurd cc

either_right : (a b : Bool) → b ≡ true → (a || b) ≡ true
either_right true b e = refl
either_right false b e = e

has_any : (xs : List ℕ) (x k : ℕ) → k < length xs → get_or xs k x ≡ x → list_any (λ y. nat_eq y x) xs ≡ true
has_any [] x k within is = absurd (omega (arith, within))
has_any (y ∷ ys) x zero within is = either_left (nat_eq y x) (list_any (λ z. nat_eq z x) ys) (eq-eqb y x is)
has_any (y ∷ ys) x (suc k) within is = either_right (nat_eq y x) (list_any (λ z. nat_eq z x) ys) (has_any ys x k (omega (arith, within)) is)

module _ (xs read : List ℕ) (x wanted : ℕ) (found : Bool) (is : found ≡ list_any (λ y. nat_eq y x) read) (same : read ≡ xs) (number : x ≡ wanted) where
  pub is_lost : found ≡ true → Contains xs wanted
  is_lost e =
      subst (Contains xs) number
      (subst (λ l. Contains l x) same (Contains-from_any {eq = λ a b. nat_eq b a} (λ a b t. sym (eqb-true b a t)) x read (sym is ∙ e)))

  pub is_kept : found ≡ false → Contains xs wanted → ⊥
  is_kept e h =
      let here : Contains read x = subst (Contains read) (sym number) (subst (λ l. Contains l wanted) (sym same) h) in
      let t = has_any read x here.0 here.1 here.2 in
      let f = sym is ∙ e in
      cc
