-- Members in the order of their places, and where a key stands among them.
use Rattle.std.proofs.Common.{◌≡◌, ℕ, zero, suc, ◌+◌, ◌-◌, ◌<◌, ◌≤◌, true, false, cond, List, [], ◌∷◌, ◌++◌, length, take, drop, filter, get_or, min, Option, Some, None, Contains, IsPermutation, refl, sym, ap, ◌∙◌, subst, arith, inl, inr, ⊎_elim, ◌⊎◌, ltb, leb, eqb, length-take, sum_by, zero-add}
use Rattle.std.specs.List.{AllByRecursion, last_or}
use Rattle.std.specs.List.Sorted.{IsNonDecreasingBy, IsPartitionPoint}
use Rattle.std.proofs.lemmas.Bool.{cases_eq, cases_lt, lt-ltb, le-ltb, le-leb, lt-leb, ltb-true, ltb-false, cond-true, cond-false, eq-eqb, ne_eqb}
use Rattle.std.proofs.lemmas.List.{take_all, take-append-le, append-nil, drop_more, drop_all}
use Rattle.std.proofs.lemmas.List.Sorted.{Contains-permutation, IsPermutation-sym, IsPermutation-trans, sum_by-IsPermutation, length_permutation}
use Rattle.std.proofs.lemmas.List.Sums.{sum_by-cons}
use Rattle.std.proofs.Math.Seq.{take-append-add}
use Rattle.ring_model.specs.Members.{IsAmong, HasAscendingPlaces, following, from_place, first}
use Rattle.ring_model.proofs.Lists.{all-among, all_from, all_weaker, among_index, index_among, filter_all, filter-keeps, filter-drops}

-- ---- lists

last_some : {X : Type 0} (o : Option X) (x : X) (xs : List X) (d : X) → last_or o (x ∷ xs) ≡ Some (get_or (x ∷ xs) (length xs) d)
last_some o x [] d = refl
last_some o x (y ∷ ys) d = last_some (Some x) y ys d

last_append : {X : Type 0} (o : Option X) (xs : List X) (y : X) (ys : List X) → last_or o (xs ++ y ∷ ys) ≡ last_or None (y ∷ ys)
last_append o [] y ys = refl
last_append o (x ∷ xs) y ys = last_append (Some x) xs y ys

-- the last of two lists is that of the second, where it has one
pub last_at : {X : Type 0} (xs ys : List X) (d : X) → 1 ≤ length ys → Some (get_or ys (length ys - 1) d) ≡ last_or None (xs ++ ys)
last_at xs [] d h = absurd (omega arith)
last_at xs (y ∷ ys) d h =
    let e : length (y ∷ ys) - 1 ≡ length ys = omega arith in
    ap (λ n. Some (get_or (y ∷ ys) n d)) e ∙ sym (last_append None xs y ys ∙ last_some None y ys d)

pub last_behind : {X : Type 0} (xs ys : List X) (d : X) → length ys < 1 → 1 ≤ length xs → Some (get_or xs (length xs - 1) d) ≡ last_or None (xs ++ ys)
last_behind xs [] d h i = last_at [] xs d i ∙ ap (last_or None) (sym (append-nil xs))
last_behind xs (y ∷ ys) d h i = absurd (omega arith)

-- the front of two lists
pub take_both : {X : Type 0} (n : ℕ) (xs ys : List X) → take (min (length xs) n) xs ++ take (min (length ys) (n - length (take (min (length xs) n) xs))) ys ≡ take n (xs ++ ys)
take_both {X = X} n xs ys = ⊎_elim whole cut (cases_lt n (length xs))
  where
    whole : n < length xs → take (min (length xs) n) xs ++ take (min (length ys) (n - length (take (min (length xs) n) xs))) ys ≡ take n (xs ++ ys)
    whole h =
        let m : min (length xs) n ≡ n = omega arith in
        let l : length (take n xs) ≡ n = omega (arith, length-take n xs) in
        let z : min (length ys) (n - n) ≡ 0 = omega arith in
        rw (m, l, z) (append-nil (take n xs) ∙ sym (take-append-le n xs ys (omega arith)))

    cut : length xs ≤ n → take (min (length xs) n) xs ++ take (min (length ys) (n - length (take (min (length xs) n) xs))) ys ≡ take n (xs ++ ys)
    cut h =
        let m : min (length xs) n ≡ length xs = omega arith in
        let e : length xs + (n - length xs) ≡ n = omega arith in
        rw (m, take_all (length xs) xs (omega arith)) (ap (λ l. xs ++ l) (take_to (n - length xs) ys) ∙ sym (take-append-add xs ys (n - length xs)) ∙ ap (λ k. take k (xs ++ ys)) e)
      where
        take_to : (k : ℕ) (l : List X) → take (min (length l) k) l ≡ take k l
        take_to k l = ⊎_elim
            (λ h. let m : min (length l) k ≡ k = omega arith in ap (λ j. take j l) m)
            (λ h. let m : min (length l) k ≡ length l = omega arith in ap (λ j. take j l) m ∙ take_all (length l) l (omega arith) ∙ sym (take_all k l h))
            (cases_lt k (length l))

among_contained : {X : Type 0} (xs : List X) (x : X) → Contains xs x → IsAmong x xs
among_contained xs x (k, h, e) = subst (λ z. IsAmong z xs) e (index_among xs k x h)

contained_among : {X : Type 0} (xs : List X) (x : X) → IsAmong x xs → Contains xs x
contained_among xs x h = among_index xs x x h

module _ {A : Type 0} (place : A → ℕ) where
  -- ---- a key among members

  none_before : (key : ℕ) (l : List A) → ((k : ℕ) (d : A) → k < length l → ltb (place (get_or l k d)) key ≡ false) → (filter (λ m. ltb (place m) key) l ≡ []) × (filter (λ m. leb key (place m)) l ≡ l)
  none_before key [] h = (refl, refl)
  none_before key (x ∷ xs) h =
      let here : ltb (place x) key ≡ false = h 0 x (omega arith) in
      let rest = none_before key xs (λ k d l. h (suc k) d (omega arith)) in (
        filter-drops (λ m. ltb (place m) key) x xs here ∙ rest.0,
        filter-keeps (λ m. leb key (place m)) x xs (le-leb key (place x) (ltb-false (place x) key here)) ∙ ap (λ l. x ∷ l) rest.1,
      )

  -- the members before the key are those in front of the point
  pub parted : (key i : ℕ) (l : List A) → i ≤ length l → IsPartitionPoint (λ m. ltb (place m) key ≡ true) (λ m. ltb (place m) key ≡ false) l i
      → (take i l ≡ filter (λ m. ltb (place m) key) l) × (drop i l ≡ filter (λ m. leb key (place m)) l)
  parted key zero l b h = let e = none_before key l (λ k d k_in. h.1 k d (omega arith) k_in) in (sym e.0, sym e.1)
  parted key (suc i) [] b h = absurd (omega arith)
  parted key (suc i) (x ∷ xs) b h =
      let here : ltb (place x) key ≡ true = h.0 0 x (omega arith) (omega arith) in
      let rest = parted key i xs (omega arith) (λ k d f l. h.0 (suc k) d (omega arith) (omega arith), λ k d f l. h.1 (suc k) d (omega arith) (omega arith)) in (
        ap (λ l. x ∷ l) rest.0 ∙ sym (filter-keeps (λ m. ltb (place m) key) x xs here),
        rest.1 ∙ sym (filter-drops (λ m. leb key (place m)) x xs (lt-leb key (place x) (ltb-true (place x) key here))),
      )

  -- the first member from the key on
  pub first_at : (live : List A) (key i : ℕ) (d : A) → i < length live → take i live ≡ filter (λ m. ltb (place m) key) live → drop i live ≡ filter (λ m. leb key (place m)) live → Some (get_or live i d) ≡ first (from_place place live key)
  first_at live key i d h front back = sym (ap (λ l. first (l ++ filter (λ m. ltb (place m) key) live)) (sym back ∙ drop_more live i d h))

  pub first_over_zero : (live : List A) (key i : ℕ) (d : A) → 0 < length live → length live ≤ i → take i live ≡ filter (λ m. ltb (place m) key) live → drop i live ≡ filter (λ m. leb key (place m)) live → Some (get_or live 0 d) ≡ first (from_place place live key)
  first_over_zero [] key i d some h front back = absurd (omega arith)
  first_over_zero (x ∷ xs) key i d some h front back =
      sym (ap (λ l. first (l ++ filter (λ m. ltb (place m) key) (x ∷ xs))) (sym back ∙ drop_all i (x ∷ xs) h) ∙ ap first (sym front ∙ take_all i (x ∷ xs) h))

  -- the member at a place, and those after it
  own_first : (live : List A) (n : A) → HasAscendingPlaces place live → IsAmong n live → filter (λ m. leb (place n) (place m)) live ≡ n ∷ filter (λ m. ltb (place n) (place m)) live
  own_first [] n a h = elim h [ ]
  own_first (x ∷ xs) n a (inl e) =
      let at_n : place x ≡ place n = ap place e in
      let up : filter (λ m. leb (place n) (place m)) xs ≡ xs = filter_all (λ m. leb (place n) (place m)) xs (all_weaker (λ m. place x < place m) (λ m. leb (place n) (place m) ≡ true) xs (λ m i. le-leb (place n) (place m) (omega arith)) a.0) in
      let over : filter (λ m. ltb (place n) (place m)) xs ≡ xs = filter_all (λ m. ltb (place n) (place m)) xs (all_weaker (λ m. place x < place m) (λ m. ltb (place n) (place m) ≡ true) xs (λ m i. lt-ltb (place n) (place m) (omega arith)) a.0) in
      filter-keeps (λ m. leb (place n) (place m)) x xs (le-leb (place n) (place x) (omega arith)) ∙ ap (λ l. x ∷ l) up ∙ ap (λ z. z ∷ xs) e
      ∙ ap (λ l. n ∷ l) (sym (filter-drops (λ m. ltb (place n) (place m)) x xs (le-ltb (place n) (place x) (omega arith)) ∙ over))
  own_first (x ∷ xs) n a (inr h) =
      let below : place x < place n = all-among (λ y. place x < place y) n xs a.0 h in
      filter-drops (λ m. leb (place n) (place m)) x xs (lt-leb (place n) (place x) below) ∙ own_first xs n a.1 h
      ∙ ap (λ l. n ∷ l) (sym (filter-drops (λ m. ltb (place n) (place m)) x xs (le-ltb (place n) (place x) (omega arith))))

  -- the members after one and then those before it are the others, clockwise
  pub following_is : (sorted live : List A) (n : A) (after front : List A) → sorted ≡ live → HasAscendingPlaces place live → IsAmong n live → after ≡ drop 1 (filter (λ m. leb (place n) (place m)) sorted) → front ≡ filter (λ m. ltb (place m) (place n)) sorted
      → after ++ front ≡ following place live n
  following_is sorted live n after front e a h b f = rw (b, f, e, own_first live n a h) refl

  -- ---- members in any order

  -- how many of the members stand at v
  count : ℕ → List A → ℕ
  count v = sum_by (λ m. cond (eqb (place m) v) 1 0)

  count_here : (v : ℕ) (x : A) (xs : List A) → place x ≡ v → count v (x ∷ xs) ≡ 1 + count v xs
  unfolding count
  count_here v x xs e = sum_by-cons (λ m. cond (eqb (place m) v) 1 0) x xs ∙ ap (λ n. n + sum_by (λ m. cond (eqb (place m) v) 1 0) xs) (cond-true (eqb (place x) v) 1 0 (eq-eqb (place x) v e))

  count_else : (v : ℕ) (x : A) (xs : List A) → (place x ≡ v → ⊥) → count v (x ∷ xs) ≡ count v xs
  unfolding count
  count_else v x xs d = sum_by-cons (λ m. cond (eqb (place m) v) 1 0) x xs ∙ ap (λ n. n + sum_by (λ m. cond (eqb (place m) v) 1 0) xs) (cond-false (eqb (place x) v) 1 0 (ne_eqb (place x) v d)) ∙ zero-add (sum_by (λ m. cond (eqb (place m) v) 1 0) xs)

  count_none : (v : ℕ) → count v [] ≡ 0
  unfolding count
  count_none v = refl

  count_permutation : (v : ℕ) (xs ys : List A) → IsPermutation xs ys → count v ys ≡ count v xs
  unfolding count
  count_permutation v xs ys h = sum_by-IsPermutation (λ m. cond (eqb (place m) v) 1 0) xs ys h

  among_counts : (y : A) (xs : List A) → IsAmong y xs → 1 ≤ count (place y) xs
  among_counts y [] h = elim h [ ]
  among_counts y (x ∷ xs) (inl e) = let c = count_here (place y) x xs (ap place e) in omega arith
  among_counts y (x ∷ xs) (inr h) =
      let r = among_counts y xs h in
      ⊎_elim (λ e. let c = count_here (place y) x xs e in omega arith) (λ d. let c = count_else (place y) x xs d in omega arith) (cases_eq (place x) (place y))

  none_counted : (v : ℕ) (xs : List A) → AllByRecursion (λ y. v < place y) xs → count v xs ≡ 0
  none_counted v [] a = count_none v
  none_counted v (x ∷ xs) a = count_else v x xs (λ e. let h : v < place x = a.0 in omega arith) ∙ none_counted v xs a.1

  ascending_counts : (v : ℕ) (xs : List A) → HasAscendingPlaces place xs → count v xs ≤ 1
  ascending_counts v [] a = let c = count_none v in omega arith
  ascending_counts v (x ∷ xs) a =
      ⊎_elim
      (λ e. let c = count_here v x xs e in let n = none_counted v xs (all_weaker (λ y. place x < place y) (λ y. v < place y) xs (λ y h. omega arith) a.0) in omega arith)
      (λ d. let c = count_else v x xs d in let r = ascending_counts v xs a.1 in omega arith)
      (cases_eq (place x) v)

  -- members that don't fall and of whom no two stand at one place ascend strictly
  strictly : (xs : List A) → IsNonDecreasingBy place xs → ((v : ℕ) → count v xs ≤ 1) → HasAscendingPlaces place xs
  strictly [] n c = tt
  strictly (x ∷ xs) n c =
      (all_from (λ y. place x < place y) xs above, strictly xs (λ i j d le lt. n (suc i) (suc j) d (omega arith) (omega arith)) (λ v. fewer v (cases_eq (place x) v)))
    where
      fewer : (v : ℕ) → (place x ≡ v) ⊎ (place x ≡ v → ⊥) → count v xs ≤ 1
      fewer v (inl e) = let h = count_here v x xs e in let b = c v in omega arith
      fewer v (inr d) = let h = count_else v x xs d in let b = c v in omega arith

      above : (y : A) → IsAmong y xs → place x < place y
      above y h =
          let i = among_index xs y y h in
          let l : i.0 < length xs = i.1 in
          let up : place x ≤ place y = subst (λ z. place x ≤ place z) i.2 (n 0 (suc i.0) y (omega arith) (omega arith)) in
          ⊎_elim
          (λ e. let a = count_here (place y) x xs e in let b = c (place y) in let m = among_counts y xs h in absurd (omega arith))
          (λ d. omega arith)
          (cases_eq (place x) (place y))

  -- ascending lists with the same members are one
  same_members : (xs ys : List A) → HasAscendingPlaces place xs → HasAscendingPlaces place ys → ((m : A) → IsAmong m xs → IsAmong m ys) → ((m : A) → IsAmong m ys → IsAmong m xs) → xs ≡ ys
  same_members [] [] a b f g = refl
  same_members [] (y ∷ ys) a b f g = elim (g y (inl refl)) [ ]
  same_members (x ∷ xs) [] a b f g = elim (f x (inl refl)) [ ]
  same_members (x ∷ xs) (y ∷ ys) a b f g =
      let e : y ≡ x = heads (f x (inl refl)) (g y (inl refl)) in
      ap (λ z. z ∷ xs) (sym e) ∙ ap (λ l. y ∷ l) (same_members xs ys a.1 b.1 (λ m h. left e m h (f m (inr h))) (λ m h. right e m h (g m (inr h))))
    where
      heads : (y ≡ x) ⊎ IsAmong x ys → (x ≡ y) ⊎ IsAmong y xs → y ≡ x
      heads (inl e) h = e
      heads (inr i) (inl e) = sym e
      heads (inr i) (inr j) = let p : place y < place x = all-among (λ z. place y < place z) x ys b.0 i in let q : place x < place y = all-among (λ z. place x < place z) y xs a.0 j in absurd (omega arith)

      left : y ≡ x → (m : A) → IsAmong m xs → (y ≡ m) ⊎ IsAmong m ys → IsAmong m ys
      left e m h (inl q) = let p : place x < place m = all-among (λ z. place x < place z) m xs a.0 h in let r : place x ≡ place m = ap place (sym e ∙ q) in absurd (omega arith)
      left e m h (inr i) = i

      right : y ≡ x → (m : A) → IsAmong m ys → (x ≡ m) ⊎ IsAmong m xs → IsAmong m xs
      right e m h (inl q) = let p : place y < place m = all-among (λ z. place y < place z) m ys b.0 h in let r : place y ≡ place m = ap place (e ∙ q) in absurd (omega arith)
      right e m h (inr i) = i

  -- a sorted list of the members of an ascending one is that one
  pub sorted_is : (members sorted live : List A) → IsPermutation members sorted → IsNonDecreasingBy place sorted → HasAscendingPlaces place live → IsPermutation live members → sorted ≡ live
  sorted_is members sorted live p n a q =
      let both : IsPermutation live sorted = IsPermutation-trans live members sorted q p in
      let strict : HasAscendingPlaces place sorted = strictly sorted n (λ v. let e = count_permutation v live sorted both in let c = ascending_counts v live a in omega arith) in
      same_members sorted live strict a
      (λ m h. among_contained live m (Contains-permutation sorted live m (IsPermutation-sym live sorted both) (contained_among sorted m h)))
      (λ m h. among_contained sorted m (Contains-permutation live sorted m both (contained_among live m h)))

  pub member_lives : (members live : List A) (n : A) → IsPermutation live members → Contains members n → IsAmong n live
  member_lives members live n q h = among_contained live n (Contains-permutation members live n (IsPermutation-sym live members q) h)

pub some_member : {X : Type 0} (members sorted : List X) (n : X) → IsPermutation members sorted → Contains members n → 0 < length sorted
some_member members sorted n p (k, h, e) = let l = length_permutation members sorted p in omega arith
