-- The numbers of a list in ascending order, each once: a list that rises and has the same numbers.
use Rattle.std.proofs.Common.{◌≡◌, ℕ, ◌<◌, ◌≤◌, Bool, true, false, ◌||◌, List, [], ◌∷◌, refl, sym, ap, ◌∙◌, inl, inr, arith}
use Rattle.std.specs.Prelude.{eqb, ⊤, IsPermutation, IsSorted}
use Rattle.std.specs.declared.cmp.Ordering.TheVariants.{Less, Equal, Greater}
use Rattle.std.specs.Cmp.{IsEquivalence, nat_eq_equiv}
use Rattle.std.specs.List.{AllByRecursion, list_any, dedup}
use Rattle.std.specs.List.Sorted.{IsStrictlySortedBy}
use Rattle.std.specs.Ordering.{nat_cmp}
use Rattle.std.proofs.lemmas.Bool.{false≢true, cases_eq, cases_order, eq-eqb, ne_eqb, lt-ltb, le-ltb, eqb-true}
use Rattle.std.proofs.lemmas.List.Kept.{Contains-dedup_nat, Contains-from_dedup}
use Rattle.std.proofs.lemmas.List.Sorted.{list_any-IsPermutation}
use Rattle.std.proofs.lemmas.Map.Keys.{IsStrictlyIncreasing-dedup, sorted_from_strictly_increasing}
use Rattle.std.proofs.lemmas.Map.Views.{Contains-from_any, list_any-from_Contains}
use Rattle.ivy_cli.specs.Summary.{put_in_order, ascending}

abbrev Above : ℕ → List ℕ → Type 0
Above n xs = AllByRecursion (λ y. n < y) xs

-- each number is below all later ones
abbrev Rises : List ℕ → Type 0
Rises [] = ⊤
Rises (x ∷ xs) = Above x xs × Rises xs

abbrev is_in : ℕ → List ℕ → Bool
is_in n xs = list_any (eqb n) xs

-- ---- two lists that rise and have the same numbers are one

is_first : (n : ℕ) (xs : List ℕ) → is_in n (n ∷ xs) ≡ true
is_first n xs = ap (λ b. b || is_in n xs) (eq-eqb n n refl)

is_later : (n x : ℕ) (xs : List ℕ) → (n ≡ x → ⊥) → is_in n (x ∷ xs) ≡ is_in n xs
is_later n x xs other = ap (λ b. b || is_in n xs) (ne_eqb n x other)

not_in : (n x : ℕ) (xs : List ℕ) → n ≤ x → Above x xs → is_in n xs ≡ false
not_in n x [] low above = refl
not_in n x (y ∷ ys) low above = is_later n y ys (λ e. omega (arith, e, above.0)) ∙ not_in n x ys low above.1

not_in_behind : (n x : ℕ) (xs : List ℕ) → n < x → Above x xs → is_in n (x ∷ xs) ≡ false
not_in_behind n x xs low above = is_later n x xs (λ e. omega (arith, e)) ∙ not_in n x xs (omega arith) above

first_is : (x y : ℕ) (xs ys : List ℕ) → Above x xs → Above y ys → is_in x (x ∷ xs) ≡ is_in x (y ∷ ys) → is_in y (x ∷ xs) ≡ is_in y (y ∷ ys) → x ≡ y
first_is x y xs ys above_x above_y at_x at_y = elim (cases_order x y) [
  | inl e ↦ e
  | inr apart ↦ elim apart [
    | inl low ↦ absurd (false≢true (sym (not_in_behind x y ys low above_y) ∙ sym at_x ∙ is_first x xs))
    | inr high ↦ absurd (false≢true (sym (not_in_behind y x xs high above_x) ∙ at_y ∙ is_first y ys))
  ]
]

rest_is : (x y : ℕ) (xs ys : List ℕ) → Above x xs → Above y ys → x ≡ y → (n : ℕ) → is_in n (x ∷ xs) ≡ is_in n (y ∷ ys) → is_in n xs ≡ is_in n ys
rest_is x y xs ys above_x above_y e n same = elim (cases_eq n x) [
  | inl at ↦ not_in n x xs (omega (arith, at)) above_x ∙ sym (not_in n y ys (omega (arith, at, e)) above_y)
  | inr apart ↦ sym (is_later n x xs apart) ∙ same ∙ is_later n y ys (λ h. apart (h ∙ sym e))
]

one_list : (xs ys : List ℕ) → Rises xs → Rises ys → ((n : ℕ) → is_in n xs ≡ is_in n ys) → xs ≡ ys
one_list [] [] rises_x rises_y same = refl
one_list [] (y ∷ ys) rises_x rises_y same = absurd (false≢true (same y ∙ is_first y ys))
one_list (x ∷ xs) [] rises_x rises_y same = absurd (false≢true (sym (same x) ∙ is_first x xs))
one_list (x ∷ xs) (y ∷ ys) rises_x rises_y same =
    let e = first_is x y xs ys rises_x.0 rises_y.0 (same x) (same y) in
    ap (λ n. n ∷ xs) e ∙ ap (λ l. y ∷ l) (one_list xs ys rises_x.1 rises_y.1 (λ n. rest_is x y xs ys rises_x.0 rises_y.0 e n (same n)))

-- ---- putting in order

above_more : (low high : ℕ) (xs : List ℕ) → low ≤ high → Above high xs → Above low xs
above_more low high [] le above = tt
above_more low high (x ∷ xs) le above = (omega (arith, le, above.0), above_more low high xs le above.1)

put_above : (x n : ℕ) (ms : List ℕ) → x < n → Above x ms → Above x (put_in_order n ms)
put_above x n [] low above = (low, tt)
put_above x n (m ∷ ms) low above = elim (cases_order n m) [
  | inl e ↦ rw (le-ltb n m (omega (arith, e)), eq-eqb n m e) above
  | inr apart ↦ elim apart [
    | inl less ↦ rw (lt-ltb n m less) (low, above)
    | inr more ↦ rw (le-ltb n m (omega (arith, more)), ne_eqb n m (λ e. omega (arith, e, more))) (above.0, put_above x n ms low above.1)
  ]
]

put_rises : (n : ℕ) (ms : List ℕ) → Rises ms → Rises (put_in_order n ms)
put_rises n [] rises = (tt, tt)
put_rises n (m ∷ ms) rises = elim (cases_order n m) [
  | inl e ↦ rw (le-ltb n m (omega (arith, e)), eq-eqb n m e) rises
  | inr apart ↦ elim apart [
    | inl less ↦ rw (lt-ltb n m less) ((less, above_more n m ms (omega (arith, less)) rises.0), rises)
    | inr more ↦ rw (le-ltb n m (omega (arith, more)), ne_eqb n m (λ e. omega (arith, e, more))) (put_above m n ms more rises.0, put_rises n ms rises.1)
  ]
]

or_same : (a b : Bool) → (a || b) ≡ (a || (a || b))
or_same true b = refl
or_same false b = refl

or_swap : (a b c : Bool) → (b || (a || c)) ≡ (a || (b || c))
or_swap true true c = refl
or_swap true false c = refl
or_swap false true c = refl
or_swap false false c = refl

put_has : (q n : ℕ) (ms : List ℕ) → is_in q (put_in_order n ms) ≡ (eqb q n || is_in q ms)
put_has q n [] = refl
put_has q n (m ∷ ms) = elim (cases_order n m) [
  | inl e ↦ rw (le-ltb n m (omega (arith, e)), eq-eqb n m e) (rw e (or_same (eqb q m) (is_in q ms)))
  | inr apart ↦ elim apart [
    | inl less ↦ rw (lt-ltb n m less) refl
    | inr more ↦ rw (le-ltb n m (omega (arith, more)), ne_eqb n m (λ e. omega (arith, e, more))) (ap (λ b. eqb q m || b) (put_has q n ms) ∙ or_swap (eqb q n) (eqb q m) (is_in q ms))
  ]
]

ascending_rises : (ns : List ℕ) → Rises (ascending ns)
ascending_rises [] = tt
ascending_rises (n ∷ ns) = put_rises n (ascending ns) (ascending_rises ns)

ascending_has : (q : ℕ) (ns : List ℕ) → is_in q (ascending ns) ≡ is_in q ns
ascending_has q [] = refl
ascending_has q (n ∷ ns) = put_has q n (ascending ns) ∙ ap (λ b. eqb q n || b) (ascending_has q ns)

-- ---- after a sort and a dedup

equal_is_not_less : Equal ≡ Less → ⊥
equal_is_not_less e = cc e

greater_is_not_less : Greater ≡ Less → ⊥
greater_is_not_less e = cc e

less_is : (x y : ℕ) → nat_cmp x y ≡ Less → x < y
less_is x y less = elim (cases_order x y) [
  | inl e ↦ absurd (equal_is_not_less (sym (rw (le-ltb x y (omega (arith, e)), eq-eqb x y e) refl) ∙ less))
  | inr apart ↦ elim apart [
    | inl low ↦ low
    | inr high ↦ absurd (greater_is_not_less (sym (rw (le-ltb x y (omega (arith, high)), ne_eqb x y (λ e. omega (arith, e, high))) refl) ∙ less))
  ]
]

above_from : (x : ℕ) (xs : List ℕ) → AllByRecursion (λ y. nat_cmp x y ≡ Less) xs → Above x xs
above_from x [] all = tt
above_from x (y ∷ ys) all = (less_is x y all.0, above_from x ys all.1)

rises_from : (xs : List ℕ) → IsStrictlySortedBy nat_cmp xs → Rises xs
unfolding IsStrictlySortedBy
rises_from [] sorted = tt
rises_from (x ∷ xs) sorted = (above_from x xs sorted.0, rises_from xs sorted.1)

both_ways : (a b : Bool) → (a ≡ true → b ≡ true) → (b ≡ true → a ≡ true) → a ≡ b
both_ways true b there back = sym (there refl)
both_ways false true there back = back refl
both_ways false false there back = refl

nat_equivalence : IsEquivalence eqb
nat_equivalence = nat_eq_equiv

dedup_has : (q : ℕ) (xs : List ℕ) → is_in q xs ≡ is_in q (dedup eqb xs)
dedup_has q xs = both_ways (is_in q xs) (is_in q (dedup eqb xs))
    (λ h. list_any-from_Contains nat_equivalence q (dedup eqb xs) (Contains-dedup_nat xs q (Contains-from_any eqb-true q xs h)))
    (λ h. list_any-from_Contains nat_equivalence q xs (Contains-from_dedup eqb xs q (Contains-from_any eqb-true q (dedup eqb xs) h)))

pub in_order : (numbers copy sorted found : List ℕ) → copy ≡ numbers → IsPermutation copy sorted → IsSorted nat_cmp sorted → found ≡ dedup eqb sorted → found ≡ ascending numbers
in_order numbers copy sorted found copied moved rises is =
    is ∙ one_list (dedup eqb sorted) (ascending numbers)
    (rises_from (dedup eqb sorted) (sorted_from_strictly_increasing (dedup eqb sorted) (IsStrictlyIncreasing-dedup sorted rises)))
    (ascending_rises numbers)
    (λ n. sym (dedup_has n sorted) ∙ sym (list_any-IsPermutation (eqb n) copy sorted moved) ∙ ap (is_in n) copied ∙ sym (ascending_has n numbers))
