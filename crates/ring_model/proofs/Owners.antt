-- The last route of a look-up in a covered ring names the owners.
use Rattle.std.proofs.Common.{◌≡◌, ℕ, zero, suc, ◌*◌, ◌<◌, ◌≤◌, Bool, true, false, cond, List, [], ◌∷◌, ◌++◌, length, take, refl, sym, ap, ◌∙◌, subst, arith, inl, inr, ⊎_elim, ◌⊎◌, append_assoc, ltb, leb, filter, not}
use Rattle.std.specs.List.{AllByRecursion}
use Rattle.std.proofs.lemmas.Bool.{lt-ltb, le-ltb, le-leb, lt-leb, ltb-true, ltb-false, cases_lt, false_from_ne_true, cond-true, not_from_false}
use Rattle.std.proofs.lemmas.Bool.Decides.{nat_tests}
use Rattle.std.proofs.lemmas.List.{append-nil, take_all}
use Rattle.std.proofs.lemmas.List.Elements.{filter-append}
use Rattle.ring_model.specs.Arc.{is_strictly_between as is_inside}
use Rattle.ring_model.specs.Members.{IsAmong, HasAscendingPlaces, following, from_place, owners}
use Rattle.ring_model.specs.Ring.{IsCovered}
use Rattle.ring_model.specs.Route.{owners_part}
use Rattle.ring_model.proofs.Lists.{among-cases, all-among, all_from, all-left, all-right, all_weaker, filter_all, filter_none, filter_gives, filter-filter, take_enough}
use Rattle.ring_model.proofs.Arcs.{is_inside-outside}
use Rattle.ring_model.proofs.Members.{IsSplit, split_from_whole, split_of, following-split, among_live, nobody_between}

above_key : (n m key : ℕ) → n < key → n < m → is_inside n m key ≡ false → key ≤ m
above_key n m key h i j = grind (arith, nat_tests)

none_above : (n m key : ℕ) → key ≤ n → n < m → is_inside n m key ≡ false → ⊥
none_above n m key h i j = grind (arith, nat_tests)

at_key : (n m key : ℕ) → key ≤ n → is_inside n m key ≡ false → key ≤ m
at_key n m key h j = grind (arith, nat_tests)

module _ {A : Type 0} (place : A → ℕ) where
  -- where nobody lives strictly between n and the key, the members from the key on are those after n, and then n
  pub from_place_is : (live : List A) (n : A) (key : ℕ) → HasAscendingPlaces place live → IsAmong n live
      → AllByRecursion (λ m. is_inside (place n) (place m) key ≡ false) (following place live n) → from_place place live key ≡ following place live n ++ n ∷ []
  from_place_is live n key a h quiet = let p = split_of place live n h in from p.0 p.1 p.2
    where
      from : (front back : List A) → live ≡ front ++ n ∷ back → from_place place live key ≡ following place live n ++ n ∷ []
      from front back w =
          let a' : HasAscendingPlaces place (front ++ n ∷ back) = subst (HasAscendingPlaces place) w a in
          let f : following place live n ≡ back ++ front = ap (λ l. following place l n) w ∙ following-split place front n back a' in
          let q : IsSplit place (front ++ n ∷ back) front n back = split_from_whole place front n back a' in
          let out : AllByRecursion (λ m. is_inside (place n) (place m) key ≡ false) (back ++ front) = subst (AllByRecursion (λ m. is_inside (place n) (place m) key ≡ false)) f quiet in
          let out_b = all-left (λ m. is_inside (place n) (place m) key ≡ false) back front out in
          let out_f = all-right (λ m. is_inside (place n) (place m) key ≡ false) back front out in
          ap (λ l. from_place place l key) w ∙ parts front back q out_b out_f (cases_lt (place n) key) ∙ sym (ap (λ l. l ++ n ∷ []) f)
        where
          parts : (front back : List A) → IsSplit place (front ++ n ∷ back) front n back → AllByRecursion (λ m. is_inside (place n) (place m) key ≡ false) back → AllByRecursion (λ m. is_inside (place n) (place m) key ≡ false) front
              → (place n < key) ⊎ (key ≤ place n) → from_place place (front ++ n ∷ back) key ≡ (back ++ front) ++ n ∷ []
          parts front back q ob of (inl l) =
              let up_f : filter (λ m. leb key (place m)) front ≡ [] = filter_none _ front (all_weaker (λ m. place m < place n) (λ m. leb key (place m) ≡ false) front (λ m i. lt-leb key (place m) (omega arith)) q.below) in
              let up_n : leb key (place n) ≡ false = lt-leb key (place n) l in
              let up_b : filter (λ m. leb key (place m)) back ≡ back = filter_all _ back (all_from (λ m. leb key (place m) ≡ true) back (λ m i. le-leb key (place m) (above_key (place n) (place m) key l (all-among (λ z. place n < place z) m back q.above i) (all-among (λ z. is_inside (place n) (place z) key ≡ false) m back ob i)))) in
              let down_f : filter (λ m. ltb (place m) key) front ≡ front = filter_all _ front (all_weaker (λ m. place m < place n) (λ m. ltb (place m) key ≡ true) front (λ m i. lt-ltb (place m) key (omega arith)) q.below) in
              let down_n : ltb (place n) key ≡ true = lt-ltb (place n) key l in
              let down_b : filter (λ m. ltb (place m) key) back ≡ [] = filter_none _ back (all_from (λ m. ltb (place m) key ≡ false) back (λ m i. le-ltb (place m) key (above_key (place n) (place m) key l (all-among (λ z. place n < place z) m back q.above i) (all-among (λ z. is_inside (place n) (place z) key ≡ false) m back ob i)))) in
              rw (filter-append (λ m. leb key (place m)) front (n ∷ back), filter-append (λ m. ltb (place m) key) front (n ∷ back), up_f, up_n, up_b, down_f, down_n, down_b) (sym (append_assoc back front (n ∷ [])))
          parts front [] q ob of (inr g) =
              let up_f : filter (λ m. leb key (place m)) front ≡ front = filter_all _ front (all_weaker (λ m. is_inside (place n) (place m) key ≡ false) (λ m. leb key (place m) ≡ true) front (λ m i. le-leb key (place m) (at_key (place n) (place m) key g i)) of) in
              let up_n : leb key (place n) ≡ true = le-leb key (place n) g in
              let down_f : filter (λ m. ltb (place m) key) front ≡ [] = filter_none _ front (all_weaker (λ m. is_inside (place n) (place m) key ≡ false) (λ m. ltb (place m) key ≡ false) front (λ m i. le-ltb (place m) key (at_key (place n) (place m) key g i)) of) in
              let down_n : ltb (place n) key ≡ false = le-ltb (place n) key g in
              rw (filter-append (λ m. leb key (place m)) front (n ∷ []), filter-append (λ m. ltb (place m) key) front (n ∷ []), up_f, up_n, down_f, down_n) (append-nil (front ++ n ∷ []))
          parts front (t ∷ back) q ob of (inr g) = absurd (none_above (place n) (place t) key g q.above.0 ob.0)

  -- where the next member isn't strictly between n and the key, nobody is
  pub quiet_arc : (live : List A) (n x : A) (rest : List A) (key : ℕ) → HasAscendingPlaces place live → IsAmong n live → following place live n ≡ x ∷ rest
      → (place x ≡ place n → ⊥) → is_inside (place n) (place x) key ≡ false → AllByRecursion (λ m. is_inside (place n) (place m) key ≡ false) (following place live n)
  quiet_arc live n x rest key a h e d o =
      all_from (λ m. is_inside (place n) (place m) key ≡ false) (following place live n) (λ m i.
      false_from_ne_true (is_inside (place n) (place m) key) (λ t.
      is_inside-outside (place n) (place x) (place m) key d o (nobody_between place live n x m rest a h e (among_live place live n m i)) t))

  -- the next member stands elsewhere
  pub apart_from_next : (live : List A) (n x : A) → IsAmong x (following place live n) → place x ≡ place n → ⊥
  apart_from_next live n x h e =
      ⊎_elim
      (λ i. let t = all-among (λ m. ltb (place n) (place m) ≡ true) x (filter (λ m. ltb (place n) (place m)) live) (passes (λ m. ltb (place n) (place m)) live) i in let l = ltb-true (place n) (place x) t in absurd (omega arith))
      (λ i. let t = all-among (λ m. ltb (place m) (place n) ≡ true) x (filter (λ m. ltb (place m) (place n)) live) (passes (λ m. ltb (place m) (place n)) live) i in let l = ltb-true (place x) (place n) t in absurd (omega arith))
      (among-cases x (filter (λ m. ltb (place n) (place m)) live) (filter (λ m. ltb (place m) (place n)) live) h)
    where
      passes : (p : A → Bool) (xs : List A) → AllByRecursion (λ m. p m ≡ true) (filter p xs)
      passes p xs = filter_gives p (λ m. p m ≡ true) xs (all_from (λ m. p m ≡ true → p m ≡ true) xs (λ m i t. t))

  -- the last route's first r live entries are the key's owners
  pub owners_are : (r : ℕ) (live : List A) (lives : A → Bool) (n : A) (list : List A) (key : ℕ) → 1 ≤ r → HasAscendingPlaces place live → IsAmong n live → lives n ≡ true
      → IsCovered place r live lives n list → AllByRecursion (λ m. lives m ≡ true → is_inside (place n) (place m) key ≡ false) list
      → take r (filter lives (owners_part place r n list key)) ≡ owners place r live key
  owners_are r live lives n list key pos a h ln c quiet =
      let alone : AllByRecursion (λ m. is_inside (place n) (place m) key ≡ false) (following place live n) = nobody (following place live n) refl in
      let whole = from_place_is live n key a h alone in
      let kept : filter lives (filter (λ m. not (is_inside (place n) (place m) key)) list) ≡ filter lives list = filter-filter lives (λ m. not (is_inside (place n) (place m) key)) list (all_weaker (λ m. lives m ≡ true → is_inside (place n) (place m) key ≡ false) (λ m. lives m ≡ true → not (is_inside (place n) (place m) key) ≡ true) list (λ m f t. not_from_false (is_inside (place n) (place m) key) (f t)) quiet) in
      ap (take r) (filter-append lives (filter (λ m. not (is_inside (place n) (place m) key)) list) (cond (ltb (length list) (2 * r)) (n ∷ []) []) ∙ ap (λ l. l ++ filter lives (cond (ltb (length list) (2 * r)) (n ∷ []) [])) kept)
      ∙ end_part (ltb (length list) (2 * r)) refl
      ∙ sym (ap (take r) whole)
    where
      nobody : (f : List A) → following place live n ≡ f → AllByRecursion (λ m. is_inside (place n) (place m) key ≡ false) (following place live n)
      nobody [] e = subst (AllByRecursion (λ m. is_inside (place n) (place m) key ≡ false)) (sym e) tt
      nobody (x ∷ rest) e =
          let some : 1 ≤ length (filter lives list) = ⊎_elim (λ g. omega arith) (λ g. let l : length (following place live n) ≡ length (x ∷ rest) = ap length e in omega arith) c.enough in
          let first = at_first (length (filter lives list)) some (c.next ∙ ap (take (length (filter lives list))) e) in
          let among : IsAmong x (following place live n) = subst (IsAmong x) (sym e) (inl refl) in
          quiet_arc live n x rest key a h e (apart_from_next live n x among) first
        where
          at_first : (k : ℕ) → 1 ≤ k → filter lives list ≡ take k (x ∷ rest) → is_inside (place n) (place x) key ≡ false
          at_first zero l f = absurd (omega arith)
          at_first (suc k) l f = (subst (AllByRecursion (λ m. is_inside (place n) (place m) key ≡ false)) f (filter_gives lives (λ m. is_inside (place n) (place m) key ≡ false) list quiet)).0

      enough_part : (ys : List A) → r ≤ length (filter lives list) → take r (filter lives list ++ ys) ≡ take r (following place live n ++ n ∷ [])
      enough_part ys g =
          ap (λ l. take r (l ++ ys)) c.next
          ∙ take_enough r (length (filter lives list)) (following place live n) ys (n ∷ []) (subst (λ l. r ≤ length l) c.next g)

      end_part : (b : Bool) → ltb (length list) (2 * r) ≡ b → take r (filter lives list ++ filter lives (cond b (n ∷ []) [])) ≡ take r (following place live n ++ n ∷ [])
      end_part true e =
          ⊎_elim
          (λ g. enough_part (filter lives (n ∷ [])) g)
          (λ g. ap (take r) (ap (λ l. l ++ filter lives (n ∷ [])) (c.next ∙ take_all (length (filter lives list)) (following place live n) g) ∙ ap (λ l. following place live n ++ l) (cond-true (lives n) (n ∷ []) [] ln)))
          c.enough
      end_part false e = enough_part [] (c.full (ltb-false (length list) (2 * r) e))
