-- The members that are through, and the next one.
use Rattle.std.proofs.Common.{◌≡◌, ℕ, zero, suc, ◌+◌, ◌<◌, ◌≤◌, Bool, true, false, not, ⊎_elim, List, [], ◌∷◌, ◌++◌, length, take, drop, get_or, Contains, refl, sym, ap, ◌∙◌, subst, arith}
use Rattle.std.specs.List.{list_all}
use Rattle.std.proofs.lemmas.List.Elements.{Contains-append_left}
use Rattle.ivy_base.specs.declared.key.PubKey.{PubKey}
use Rattle.ivy_base.specs.Naming.{head_key_of}
use Rattle.tree_model.specs.Tree.{same_key}
use Rattle.tree_model.proofs.Keys.{same_key_itself}
use Rattle.tree_model.proofs.Sound.{both_true}
use Rattle.log_model.specs.View.{View, IsView, have_own_head_keys, most_members}
use Rattle.log_model.proofs.Lists.{here, there, in_cons, in_nothing, passes}

-- the rest at a place begins with the item there
pub rest_at : {X : Type 0} (xs : List X) (k : ℕ) (d : X) → k < length xs → drop k xs ≡ get_or xs k d ∷ drop (k + 1) xs
rest_at [] k d h = absurd (omega (arith, h))
rest_at (x ∷ xs) zero d h = refl
rest_at {X} (x ∷ xs) (suc k) d h =
    let one_more : suc (k + 1) ≡ suc k + 1 = omega arith in
    rest_at xs k d (omega (arith, h)) ∙ ap (λ (n : ℕ). get_or xs k d ∷ drop n (x ∷ xs)) one_more

pub no_rest : {X : Type 0} (xs : List X) (k : ℕ) → length xs ≤ k → drop k xs ≡ []
no_rest [] zero h = refl
no_rest [] (suc k) h = refl
no_rest (x ∷ xs) zero h = absurd (omega (arith, h))
no_rest (x ∷ xs) (suc k) h = no_rest xs k (omega (arith, h))

-- what has a rest is longer
pub within : {X : Type 0} (xs : List X) (k : ℕ) (x : X) (rest : List X) → drop k xs ≡ x ∷ rest → k < length xs
within [] zero x rest e = cc e
within [] (suc k) x rest e = cc e
within (y ∷ ys) zero x rest e = omega arith
within (y ∷ ys) (suc k) x rest e = let less = within ys k x rest e in omega (arith, less)

pub rest_is : {X : Type 0} (xs : List X) (k : ℕ) (x : X) (rest : List X) → drop k xs ≡ x ∷ rest → rest ≡ drop (k + 1) xs
rest_is [] zero x rest e = cc e
rest_is [] (suc k) x rest e = cc e
rest_is (y ∷ ys) zero x rest e = cc e
rest_is {X} (y ∷ ys) (suc k) x rest e = let one_more : suc (k + 1) ≡ suc k + 1 = omega arith in rest_is ys k x rest e ∙ ap (λ (n : ℕ). drop n (y ∷ ys)) one_more

in_rest : {X : Type 0} (xs : List X) (k : ℕ) (x : X) (rest : List X) → drop k xs ≡ x ∷ rest → Contains xs x
in_rest [] zero x rest e = cc e
in_rest [] (suc k) x rest e = cc e
in_rest {X} (y ∷ ys) zero x rest e = subst (λ (l : List X). Contains l x) (sym e) (here x rest)
in_rest (y ∷ ys) (suc k) x rest e = there y ys x (in_rest ys k x rest e)

pub take_more : {X : Type 0} (xs : List X) (k : ℕ) (x : X) (rest : List X) → drop k xs ≡ x ∷ rest → take (k + 1) xs ≡ take k xs ++ x ∷ []
take_more [] zero x rest e = cc e
take_more [] (suc k) x rest e = cc e
take_more {X} (y ∷ ys) zero x rest e = let same : y ≡ x = cc e in ap (λ (z : X). z ∷ []) same
take_more {X} (y ∷ ys) (suc k) x rest e =
    let one_more : suc k + 1 ≡ suc (k + 1) = omega arith in
    ap (λ (n : ℕ). take n (y ∷ ys)) one_more ∙ ap (λ (l : List X). y ∷ l) (take_more ys k x rest e)

-- what is among the first is among all
pub in_take : {X : Type 0} (xs : List X) (k : ℕ) (x : X) → Contains (take k xs) x → Contains xs x
in_take [] zero x c = c
in_take [] (suc k) x c = c
in_take (y ∷ ys) zero x c = absurd (in_nothing x c)
in_take {X} (y ∷ ys) (suc k) x c = ⊎_elim (λ e. subst (λ (z : X). Contains (y ∷ ys) z) e (here y ys)) (λ d. there y ys x (in_take ys k x d)) (in_cons y (take k ys) x c)

-- no two members are one
not_before : (xs ys : List PubKey) → have_own_head_keys (xs ++ ys) ≡ true → (k : ℕ) (x : PubKey) (rest : List PubKey) → drop k xs ≡ x ∷ rest → Contains (take k xs) x → ⊥
not_before [] ys own zero x rest e c = in_nothing x c
not_before [] ys own (suc k) x rest e c = in_nothing x c
not_before (z ∷ zs) ys own zero x rest e c = in_nothing x c
not_before (z ∷ zs) ys own (suc k) x rest e c = ⊎_elim same (λ d. not_before zs ys tests.1 k x rest e d) (in_cons z (take k zs) x c)
  where
    tests : (list_all (λ other. not (same_key (head_key_of z) (head_key_of other))) (zs ++ ys) ≡ true) × (have_own_head_keys (zs ++ ys) ≡ true)
    tests = both_true (list_all (λ other. not (same_key (head_key_of z) (head_key_of other))) (zs ++ ys)) (have_own_head_keys (zs ++ ys)) own

    not_both : (b : Bool) → b ≡ true → not b ≡ true → ⊥
    not_both true e f = cc f
    not_both false e f = cc e

    same : z ≡ x → ⊥
    same e2 =
        let other : not (same_key (head_key_of z) (head_key_of x)) ≡ true =
        passes (λ other. not (same_key (head_key_of z) (head_key_of other))) (zs ++ ys) x tests.0 (Contains-append_left zs ys x (in_rest zs k x rest e)) in
        not_both (same_key (head_key_of z) (head_key_of x)) (subst (λ (p : PubKey). same_key (head_key_of z) (head_key_of p) ≡ true) e2 (same_key_itself (head_key_of z))) other

module _ (v : View) (k : ℕ) (owner : PubKey) (rest : List PubKey) (is_view : IsView v) (owner_is : drop k v.members ≡ owner ∷ rest) where
  -- the next member isn't one of those that are through
  pub is_new : Contains (take k v.members) owner → ⊥
  is_new = not_before v.members v.former is_view.apart k owner rest owner_is

  pub few : k < most_members
  few = let less = within v.members k owner rest owner_is in let most = is_view.few in omega (arith, less, most)
