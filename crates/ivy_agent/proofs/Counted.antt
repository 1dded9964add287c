-- What holds of each of some, and of one more after them.
use Rattle.std.proofs.Common.{◌≡◌, List, [], ◌∷◌, ◌++◌, Result, Ok, Err, subst}
use Rattle.std.specs.Prelude.{OnOk}
use Rattle.std.specs.List.{All}
use Rattle.std.proofs.lemmas.List.Elements.{All-nil, All-cons, All-head, All-tail}

module _ {X : Type 0} (P : X → Type 0) where
  of_first : (xs ys : List X) → All P (xs ++ ys) → All P xs
  of_first [] ys h = All-nil P
  of_first (x ∷ xs) ys h = All-cons P x xs (All-head P x (xs ++ ys) h) (of_first xs ys (All-tail P x (xs ++ ys) h))

  of_last : (xs : List X) (x : X) → All P (xs ++ x ∷ []) → P x
  of_last [] x h = All-head P x [] h
  of_last (y ∷ xs) x h = of_last xs x (All-tail P y (xs ++ x ∷ []) h)

  pub each_of_two : (x y : X) (all : List X) → all ≡ x ∷ y ∷ [] → All P all → P x × P y
  each_of_two x y all is h =
      let both = subst (All P) is h in
      (All-head P x (y ∷ []) both, All-head P y [] (All-tail P x (y ∷ []) both))

  module _ {A E : Type 0} (xs all : List X) (x : X) (is : all ≡ xs ++ x ∷ []) where
    pub those_before : (r : Result A E) → OnOk r (All P all) → OnOk r (All P xs)
    those_before (Ok a) h = of_first xs (x ∷ []) (subst (All P) is h)
    those_before (Err e) h = tt

    pub that_one : (r : Result A E) → OnOk r (All P all) → OnOk r (P x)
    that_one (Ok a) h = of_last xs x (subst (All P) is h)
    that_one (Err e) h = tt
