-- Elements of lists that are made of others, and tests.
use Rattle.std.proofs.Common.{◌≡◌, ⊎_elim, Bool, true, false, ◌||◌, List, [], ◌∷◌, map, flat_map, refl, sym, subst, Contains}
use Rattle.std.specs.List.{list_any}
use Rattle.std.proofs.lemmas.List.Elements.{Contains-append_left, Contains-append_right, Contains-append_cases}
use Rattle.log_model.proofs.Lists.{here, there, in_cons, in_nothing, some_passes}

module _ {X Y : Type 0} (f : X → Y) where
  pub in_map : (xs : List X) (x : X) → Contains xs x → Contains (map f xs) (f x)
  in_map [] x c = absurd (in_nothing x c)
  in_map (z ∷ xs) x c = ⊎_elim
      (λ e. subst (λ (w : X). Contains (map f (z ∷ xs)) (f w)) e (here (f z) (map f xs)))
      (λ d. there (f z) (map f xs) (f x) (in_map xs x d)) (in_cons z xs x c)

  pub from_map : (xs : List X) (y : Y) → Contains (map f xs) y → (x : X) × Contains xs x × (f x ≡ y)
  from_map [] y c = absurd (in_nothing y c)
  from_map (z ∷ xs) y c = ⊎_elim
      (λ e. (z, here z xs, e))
      (λ d. let w = from_map xs y d in (w.0, there z xs w.0 w.1, w.2)) (in_cons (f z) (map f xs) y c)

module _ {X Y : Type 0} (f : X → List Y) where
  pub in_flat_map : (xs : List X) (x : X) (y : Y) → Contains xs x → Contains (f x) y → Contains (flat_map f xs) y
  in_flat_map [] x y c d = absurd (in_nothing x c)
  in_flat_map (z ∷ xs) x y c d = ⊎_elim
      (λ e. Contains-append_left (f z) (flat_map f xs) y (subst (λ (w : X). Contains (f w) y) (sym e) d))
      (λ more. Contains-append_right (f z) (flat_map f xs) y (in_flat_map xs x y more d)) (in_cons z xs x c)

  pub from_flat_map : (xs : List X) (y : Y) → Contains (flat_map f xs) y → (x : X) × Contains xs x × Contains (f x) y
  from_flat_map [] y c = absurd (in_nothing y c)
  from_flat_map (z ∷ xs) y c = ⊎_elim
      (λ d. (z, here z xs, d))
      (λ d. let w = from_flat_map xs y d in (w.0, there z xs w.0 w.1, w.2)) (Contains-append_cases (f z) (flat_map f xs) y c)

-- what no element passes, each fails
pub none_passes : {X : Type 0} (test : X → Bool) (xs : List X) (x : X) → list_any test xs ≡ false → Contains xs x → test x ≡ false
none_passes {X} test xs x none c = by (test x) refl
  where
    by : (b : Bool) → test x ≡ b → b ≡ false
    by true e = let some = some_passes test xs x c e in cc
    by false e = refl

-- neither of two is true
pub neither : (a b : Bool) → (a || b) ≡ false → (a ≡ false) × (b ≡ false)
neither true b h = cc
neither false b h = (refl, h)
