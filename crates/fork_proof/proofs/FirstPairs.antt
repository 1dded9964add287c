-- The first pair of items of which something is found, by the places of the two.
use Rattle.std.proofs.Common.{◌≡◌, ◌⊎◌, ℕ, zero, suc, ◌<◌, List, [], ◌∷◌, Option, Some, None, inl, inr, refl, sym, ap, ◌∙◌, subst, arith}
use Rattle.std.specs.Prelude.{MatchOption}
use Rattle.std.specs.Option.{option_or}
use Rattle.std.specs.List.{slice_get, filter_map, cons_option}
use Rattle.fork_model.specs.Finding.{◌>>=◌, first_with, first_pair}
use Rattle.fork_proof.proofs.FoundProofs.{some_same, none_some}

module _ {A B : Type 0} where
  -- ---- one item

  abbrev pub IsNoneOf : (A → Option B) → List A → Type 0
  IsNoneOf f xs = (j : ℕ) (y : A) → slice_get xs j ≡ Some y → f y ≡ None

  pub record IsFirstOf (f : A → Option B) (xs : List A) (b : B) : Type 0 where
    pub place : ℕ
    pub item : A
    pub at : slice_get xs place ≡ Some item
    pub found : f item ≡ Some b
    pub earlier : (k : ℕ) (z : A) → k < place → slice_get xs k ≡ Some z → f z ≡ None

  first_item : (f : A → Option B) (xs : List A) → MatchOption (first_with f xs) (IsNoneOf f xs) (IsFirstOf f xs)
  first_item f [] = λ j y e. absurd (none_some e)
  first_item f (x ∷ xs) = by (f x) refl (first_with f xs) (first_item f xs)
    where
      none : f x ≡ None → IsNoneOf f xs → IsNoneOf f (x ∷ xs)
      none is rest zero y e = ap f (sym (some_same e)) ∙ is
      none is rest (suc j) y e = rest j y e

      sooner : f x ≡ None → (n : ℕ) → ((k : ℕ) (z : A) → k < n → slice_get xs k ≡ Some z → f z ≡ None) → (k : ℕ) (z : A) → k < suc n → slice_get (x ∷ xs) k ≡ Some z → f z ≡ None
      sooner is n rest zero z below e = ap f (sym (some_same e)) ∙ is
      sooner is n rest (suc k) z below e = rest k z (omega (arith, below)) e

      by : (o : Option B) → f x ≡ o → (p : Option B) → MatchOption p (IsNoneOf f xs) (IsFirstOf f xs) → MatchOption (option_or o p) (IsNoneOf f (x ∷ xs)) (IsFirstOf f (x ∷ xs))
      by None is None rest = none is rest
      by None is (Some b) rest = record { place = suc rest.place; item = rest.item; at = rest.at; found = rest.found; earlier = sooner is rest.place rest.earlier }
      by (Some b) is p rest = record { place = 0; item = x; at = refl; found = is; earlier = λ k z below. absurd (omega (arith, below)) }

  -- ---- two

  abbrev pub IsNoPair : (A → A → Option B) → List A → Type 0
  IsNoPair f xs = (i j : ℕ) (x y : A) → i < j → slice_get xs i ≡ Some x → slice_get xs j ≡ Some y → f x y ≡ None

  pub record IsFirstPair (f : A → A → Option B) (xs : List A) (b : B) : Type 0 where
    pub first : ℕ
    pub second : ℕ
    pub one : A
    pub other : A
    pub two : first < second
    pub at_first : slice_get xs first ≡ Some one
    pub at_second : slice_get xs second ≡ Some other
    pub found : f one other ≡ Some b
    pub earlier : (i j : ℕ) (x y : A) → i < j → slice_get xs i ≡ Some x → slice_get xs j ≡ Some y → (i < first) ⊎ ((i ≡ first) × (j < second)) → f x y ≡ None

  pub first_two : (f : A → A → Option B) (xs : List A) → MatchOption (first_pair f xs) (IsNoPair f xs) (IsFirstPair f xs)
  first_two f [] = λ i j x y two e. absurd (none_some e)
  first_two f (x ∷ xs) = by (first_with (f x) xs) (first_item (f x) xs) (first_pair f xs) (first_two f xs)
    where
      none : IsNoneOf (f x) xs → IsNoPair f xs → IsNoPair f (x ∷ xs)
      none of_one rest zero zero y z two e g = absurd (omega (arith, two))
      none of_one rest zero (suc j) y z two e g = ap (λ (w : A). f w z) (sym (some_same e)) ∙ of_one j z g
      none of_one rest (suc i) zero y z two e g = absurd (omega (arith, two))
      none of_one rest (suc i) (suc j) y z two e g = rest i j y z (omega (arith, two)) e g

      later : (m n : ℕ) → IsNoneOf (f x) xs → ((i j : ℕ) (y z : A) → i < j → slice_get xs i ≡ Some y → slice_get xs j ≡ Some z → (i < m) ⊎ ((i ≡ m) × (j < n)) → f y z ≡ None)
          → (i j : ℕ) (y z : A) → i < j → slice_get (x ∷ xs) i ≡ Some y → slice_get (x ∷ xs) j ≡ Some z → (i < suc m) ⊎ ((i ≡ suc m) × (j < suc n)) → f y z ≡ None
      later m n of_one rest zero zero y z two e g sooner = absurd (omega (arith, two))
      later m n of_one rest zero (suc j) y z two e g sooner = ap (λ (w : A). f w z) (sym (some_same e)) ∙ of_one j z g
      later m n of_one rest (suc i) zero y z two e g sooner = absurd (omega (arith, two))
      later m n of_one rest (suc i) (suc j) y z two e g (inl below) = rest i j y z (omega (arith, two)) e g (inl (omega (arith, below)))
      later m n of_one rest (suc i) (suc j) y z two e g (inr same) = rest i j y z (omega (arith, two)) e g (inr (omega (arith, same.0), omega (arith, same.1)))

      of_first : (n : ℕ) → ((k : ℕ) (z : A) → k < n → slice_get xs k ≡ Some z → f x z ≡ None)
          → (i j : ℕ) (y z : A) → i < j → slice_get (x ∷ xs) i ≡ Some y → slice_get (x ∷ xs) j ≡ Some z → (i < 0) ⊎ ((i ≡ 0) × (j < suc n)) → f y z ≡ None
      of_first n rest i j y z two e g (inl below) = absurd (omega (arith, below))
      of_first n rest (suc i) j y z two e g (inr same) = absurd (omega (arith, same.0))
      of_first n rest zero zero y z two e g (inr same) = absurd (omega (arith, two))
      of_first n rest zero (suc j) y z two e g (inr same) = ap (λ (w : A). f w z) (sym (some_same e)) ∙ rest j z (omega (arith, same.1)) g

      by : (o : Option B) → MatchOption o (IsNoneOf (f x) xs) (IsFirstOf (f x) xs) → (p : Option B) → MatchOption p (IsNoPair f xs) (IsFirstPair f xs)
          → MatchOption (option_or o p) (IsNoPair f (x ∷ xs)) (IsFirstPair f (x ∷ xs))
      by None of_one None rest = none of_one rest
      by None of_one (Some b) rest = record {
        first = suc rest.first;
        second = suc rest.second;
        one = rest.one;
        other = rest.other;
        two = omega (arith, rest.two);
        at_first = rest.at_first;
        at_second = rest.at_second;
        found = rest.found;
        earlier = later rest.first rest.second of_one rest.earlier;
      }
      by (Some b) of_one p rest = record {
        first = 0;
        second = suc of_one.place;
        one = x;
        other = of_one.item;
        two = omega arith;
        at_first = refl;
        at_second = of_one.at;
        found = of_one.found;
        earlier = of_first of_one.place of_one.earlier;
      }

-- ---- among the items that something is made of

module _ {A B C : Type 0} (g : A → Option C) where
  with_none : (xs : List A) → None ≡ first_with {A = A} {B = B} (λ x. None) xs
  with_none [] = refl
  with_none (x ∷ xs) = with_none xs

  with_made : (h : C → Option B) (xs : List A) → first_with h (filter_map g xs) ≡ first_with (λ x. g x >>= h) xs
  with_made h [] = refl
  with_made h (x ∷ xs) = by (g x) (with_made h xs)
    where
      by : (o : Option C) → first_with h (filter_map g xs) ≡ first_with (λ x. g x >>= h) xs
          → first_with h (cons_option o (filter_map g xs)) ≡ option_or (o >>= h) (first_with (λ x. g x >>= h) xs)
      by None rest = rest
      by (Some c) rest = ap (option_or (h c)) rest

  -- what is found of two
  abbrev pub of_made : (C → C → Option B) → A → A → Option B
  of_made f x y = g x >>= (λ a. g y >>= f a)

  pub pair_made : (f : C → C → Option B) (xs : List A) → first_pair f (filter_map g xs) ≡ first_pair (of_made f) xs
  pair_made f [] = refl
  pair_made f (x ∷ xs) = by (g x) (pair_made f xs)
    where
      by : (o : Option C) → first_pair f (filter_map g xs) ≡ first_pair (of_made f) xs
          → first_pair f (cons_option o (filter_map g xs)) ≡ option_or (first_with (λ y. o >>= (λ a. g y >>= f a)) xs) (first_pair (of_made f) xs)
      by None rest = rest ∙ ap (λ (p : Option B). option_or p (first_pair (of_made f) xs)) (with_none xs)
      by (Some c) rest = (λ i. option_or (with_made (f c) xs i) (rest i))
