-- Elements of lists, and tests of them.
use Rattle.std.proofs.Common.{◌≡◌, ◌⊎◌, inl, inr, ⊎_elim, ℕ, zero, suc, ◌<◌, Bool, true, false, cond, ◌&&◌, ◌||◌, List, [], ◌∷◌, ◌++◌, length, get_or, refl, sym, ap, ◌∙◌, subst, filter, arith, Contains}
use Rattle.std.specs.List.{AllByRecursion, list_any, list_all}
use Rattle.tree_model.proofs.Sound.{both_true}

pub both : (a b : Bool) → a ≡ true → b ≡ true → (a && b) ≡ true
both true b h g = g
both false b h g = cc

pub or_left : (a b : Bool) → a ≡ true → (a || b) ≡ true
or_left true b h = refl
or_left false b h = cc

pub or_right : (a b : Bool) → b ≡ true → (a || b) ≡ true
or_right true b h = refl
or_right false b h = h

pub or_cases : (a b : Bool) → (a || b) ≡ true → (a ≡ true) ⊎ (b ≡ true)
or_cases true b h = inl refl
or_cases false b h = inr h

module _ {X : Type 0} where
  pub here : (x : X) (xs : List X) → Contains (x ∷ xs) x
  here x xs = (0, omega arith, refl)

  pub there : (y : X) (xs : List X) (x : X) → Contains xs x → Contains (y ∷ xs) x
  there y xs x h = (suc h.0, omega (arith, h.1), h.2)

  pub in_cons : (y : X) (xs : List X) (x : X) → Contains (y ∷ xs) x → (y ≡ x) ⊎ Contains xs x
  in_cons y xs x h = by h.0 h.1 h.2
    where
      by : (k : ℕ) → k < suc (length xs) → get_or (y ∷ xs) k x ≡ x → (y ≡ x) ⊎ Contains xs x
      by zero within found = inl found
      by (suc k) within found = inr (k, omega arith, found)

  pub in_nothing : (x : X) → Contains [] x → ⊥
  in_nothing x h = let lt = h.1 in omega arith

  pub each_from : (P : X → Type 0) (xs : List X) → ((x : X) → Contains xs x → P x) → AllByRecursion P xs
  each_from P [] h = tt
  each_from P (x ∷ xs) h = (h x (here x xs), each_from P xs (λ y c. h y (there x xs y c)))

  pub each : (P : X → Type 0) (xs : List X) (x : X) → AllByRecursion P xs → Contains xs x → P x
  each P [] x h c = absurd (in_nothing x c)
  each P (y ∷ xs) x h c = ⊎_elim (λ e. subst P e h.0) (λ d. each P xs x h.1 d) (in_cons y xs x c)

  pub each_append : (P : X → Type 0) (xs ys : List X) → AllByRecursion P xs → AllByRecursion P ys → AllByRecursion P (xs ++ ys)
  each_append P [] ys h g = g
  each_append P (x ∷ xs) ys h g = (h.0, each_append P xs ys h.1 g)

  pub each_left : (P : X → Type 0) (xs ys : List X) → AllByRecursion P (xs ++ ys) → AllByRecursion P xs
  each_left P [] ys h = tt
  each_left P (x ∷ xs) ys h = (h.0, each_left P xs ys h.1)

  pub each_right : (P : X → Type 0) (xs ys : List X) → AllByRecursion P (xs ++ ys) → AllByRecursion P ys
  each_right P [] ys h = h
  each_right P (x ∷ xs) ys h = each_right P xs ys h.1

  -- a test that an element passes
  pub some_passes : (test : X → Bool) (xs : List X) (x : X) → Contains xs x → test x ≡ true → list_any test xs ≡ true
  some_passes test [] x c p = absurd (in_nothing x c)
  some_passes test (y ∷ xs) x c p = ⊎_elim (λ e. or_left (test y) (list_any test xs) (ap test e ∙ p)) (λ d. or_right (test y) (list_any test xs) (some_passes test xs x d p)) (in_cons y xs x c)

  pub who_passes : (test : X → Bool) (xs : List X) → list_any test xs ≡ true → (x : X) × Contains xs x × (test x ≡ true)
  who_passes test [] h = cc
  who_passes test (y ∷ xs) h = ⊎_elim (λ e. (y, here y xs, e)) (λ g. let w = who_passes test xs g in (w.0, there y xs w.0 w.1, w.2)) (or_cases (test y) (list_any test xs) h)

  pub all_pass : (test : X → Bool) (xs : List X) → ((x : X) → Contains xs x → test x ≡ true) → list_all test xs ≡ true
  all_pass test [] h = refl
  all_pass test (y ∷ xs) h = both (test y) (list_all test xs) (h y (here y xs)) (all_pass test xs (λ x c. h x (there y xs x c)))

  pub passes : (test : X → Bool) (xs : List X) (x : X) → list_all test xs ≡ true → Contains xs x → test x ≡ true
  passes test [] x h c = absurd (in_nothing x c)
  passes test (y ∷ xs) x h c = let p = both_true (test y) (list_all test xs) h in ⊎_elim (λ e. sym (ap test e) ∙ p.0) (λ d. passes test xs x p.1 d) (in_cons y xs x c)

  -- what a filter keeps
  pub in_filter : (test : X → Bool) (xs : List X) (x : X) → Contains xs x → test x ≡ true → Contains (filter test xs) x
  in_filter test [] x c p = absurd (in_nothing x c)
  in_filter test (y ∷ xs) x c p = by (test y) refl (in_cons y xs x c) (λ d. in_filter test xs x d p)
    where
      by : (b : Bool) → test y ≡ b → (y ≡ x) ⊎ Contains xs x → (Contains xs x → Contains (filter test xs) x) → Contains (cond b (y ∷ filter test xs) (filter test xs)) x
      by true e (inl s) again = subst (λ (z : X). Contains (y ∷ filter test xs) z) s (here y (filter test xs))
      by true e (inr d) again = there y (filter test xs) x (again d)
      by false e (inl s) again = cc (ap test s)
      by false e (inr d) again = again d

  pub from_filter : (test : X → Bool) (xs : List X) (x : X) → Contains (filter test xs) x → Contains xs x × (test x ≡ true)
  from_filter test [] x c = absurd (in_nothing x c)
  from_filter test (y ∷ xs) x c = by (test y) refl c (λ d. let w = from_filter test xs x d in (there y xs x w.0, w.1))
    where
      by : (b : Bool) → test y ≡ b → Contains (cond b (y ∷ filter test xs) (filter test xs)) x → (Contains (filter test xs) x → Contains (y ∷ xs) x × (test x ≡ true)) → Contains (y ∷ xs) x × (test x ≡ true)
      by true e d again = ⊎_elim (λ s. (subst (λ (z : X). Contains (y ∷ xs) z) s (here y xs), sym (ap test s) ∙ e)) again (in_cons y (filter test xs) x d)
      by false e d again = again d
