-- Members of a circle in the order of their places.
use Rattle.std.proofs.Common.{◌≡◌, ℕ, ◌<◌, Bool, true, false, cond, List, [], ◌∷◌, ◌++◌, refl, sym, ap, ◌∙◌, subst, arith, inl, inr, ⊎_elim, ◌⊎◌, append_assoc, ltb, leb, filter}
use Rattle.std.specs.List.{AllByRecursion}
use Rattle.std.proofs.lemmas.Bool.{lt-ltb, le-ltb, le-leb, cases_lt}
use Rattle.std.proofs.lemmas.List.{append-nil}
use Rattle.std.proofs.lemmas.List.Elements.{filter-append}
use Rattle.ring_model.specs.Arc.{is_strictly_between as is_inside}
use Rattle.ring_model.specs.Members.{IsAmong, HasAscendingPlaces, following, from_place}
use Rattle.ring_model.proofs.Lists.{among-left, among-right, among-cases, all-among, all-left, all-right, all_weaker, filter_all, filter_none, cons_head, cons_tail, nil_cons, among_filtered, filter_gives, among_filter}
use Rattle.ring_model.proofs.Arcs.{low, at_n, at_s, high, wrap_s, wrap_n, wrap_mid}

-- ---- lists

module _ {A : Type 0} (place : A → ℕ) where
  -- n stands between those of smaller and those of greater place
  pub record IsSplit (live front : List A) (n : A) (back : List A) : Type 0 where
    pub whole : live ≡ front ++ n ∷ back
    pub below : AllByRecursion (λ m. place m < place n) front
    pub above : AllByRecursion (λ m. place n < place m) back

  pub split_from_whole : (front : List A) (n : A) (back : List A) → HasAscendingPlaces place (front ++ n ∷ back) → IsSplit (front ++ n ∷ back) front n back
  split_from_whole [] n back a = record { whole = refl; below = tt; above = a.0 }
  split_from_whole (x ∷ xs) n back a =
      let rest = split_from_whole xs n back a.1 in
      let here : place x < place n = (all-right (λ y. place x < place y) xs (n ∷ back) a.0).0 in
      record { whole = refl; below = (here, rest.below); above = rest.above }

  pub split_of : (live : List A) (n : A) → IsAmong n live → (front : List A) × (back : List A) × (live ≡ front ++ n ∷ back)
  split_of [] n h = elim h [ ]
  split_of (x ∷ xs) n (inl e) = ([], xs, ap (λ y. y ∷ xs) e)
  split_of (x ∷ xs) n (inr h) = let r = split_of xs n h in (x ∷ r.0, r.1, ap (λ ys. x ∷ ys) r.2)

  pub following-split : (front : List A) (n : A) (back : List A) → HasAscendingPlaces place (front ++ n ∷ back) → following place (front ++ n ∷ back) n ≡ back ++ front
  following-split front n back a =
      let s = split_from_whole front n back a in
      let over : filter (λ m. ltb (place n) (place m)) front ≡ [] = filter_none _ front (all_weaker (λ m. place m < place n) (λ m. ltb (place n) (place m) ≡ false) front (λ m h. le-ltb (place n) (place m) (omega arith)) s.below) in
      let under : filter (λ m. ltb (place m) (place n)) back ≡ [] = filter_none _ back (all_weaker (λ m. place n < place m) (λ m. ltb (place m) (place n) ≡ false) back (λ m h. le-ltb (place m) (place n) (omega arith)) s.above) in
      let all_over : filter (λ m. ltb (place n) (place m)) back ≡ back = filter_all _ back (all_weaker (λ m. place n < place m) (λ m. ltb (place n) (place m) ≡ true) back (λ m h. lt-ltb (place n) (place m) h) s.above) in
      let all_under : filter (λ m. ltb (place m) (place n)) front ≡ front = filter_all _ front (all_weaker (λ m. place m < place n) (λ m. ltb (place m) (place n) ≡ true) front (λ m h. lt-ltb (place m) (place n) h) s.below) in
      let itself : ltb (place n) (place n) ≡ false = le-ltb (place n) (place n) (omega arith) in
      rw (filter-append (λ m. ltb (place n) (place m)) front (n ∷ back), filter-append (λ m. ltb (place m) (place n)) front (n ∷ back), over, itself, all_over, all_under, under, append-nil front) refl

  -- the members after s are those after n but s, and then n, where s is the next of n
  pub following-next : (live : List A) (n s : A) (rest : List A) → HasAscendingPlaces place live → IsAmong n live → following place live n ≡ s ∷ rest
      → following place live s ≡ rest ++ n ∷ []
  following-next live n s rest a h e =
      let p = split_of live n h in
      next_of p.0 p.1 p.2
    where
      next_of : (front back : List A) → live ≡ front ++ n ∷ back → following place live s ≡ rest ++ n ∷ []
      next_of front (t ∷ back) w =
          let a' : HasAscendingPlaces place (front ++ n ∷ t ∷ back) = subst (HasAscendingPlaces place) w a in
          let f : t ∷ (back ++ front) ≡ s ∷ rest = sym (following-split front n (t ∷ back) a') ∙ sym (ap (λ l. following place l n) w) ∙ e in
          let eq_s : t ≡ s = cons_head t (back ++ front) s rest f in
          let eq_r : back ++ front ≡ rest = cons_tail t (back ++ front) s rest f in
          let w2 : front ++ n ∷ t ∷ back ≡ (front ++ n ∷ []) ++ t ∷ back = sym (append_assoc front (n ∷ []) (t ∷ back)) in
          let a2 : HasAscendingPlaces place ((front ++ n ∷ []) ++ t ∷ back) = subst (HasAscendingPlaces place) w2 a' in
          let g : following place ((front ++ n ∷ []) ++ t ∷ back) t ≡ back ++ (front ++ n ∷ []) = following-split (front ++ n ∷ []) t back a2 in
          let g2 : following place live t ≡ (back ++ front) ++ n ∷ [] = ap (λ l. following place l t) (w ∙ w2) ∙ g ∙ sym (append_assoc back front (n ∷ [])) in
          subst (λ z. following place live z ≡ rest ++ n ∷ []) eq_s (g2 ∙ ap (λ l. l ++ n ∷ []) eq_r)
      next_of [] [] w =
          let a' : HasAscendingPlaces place (n ∷ []) = subst (HasAscendingPlaces place) w a in
          let f : [] ≡ s ∷ rest = sym (following-split [] n [] a') ∙ sym (ap (λ l. following place l n) w) ∙ e in
          absurd (nil_cons s rest f)
      next_of (t ∷ front) [] w =
          let a' : HasAscendingPlaces place ((t ∷ front) ++ n ∷ []) = subst (HasAscendingPlaces place) w a in
          let f : t ∷ front ≡ s ∷ rest = sym (following-split (t ∷ front) n [] a') ∙ sym (ap (λ l. following place l n) w) ∙ e in
          let eq_s : t ≡ s = cons_head t front s rest f in
          let eq_r : front ≡ rest = cons_tail t front s rest f in
          let g : following place ([] ++ t ∷ (front ++ n ∷ [])) t ≡ (front ++ n ∷ []) ++ [] = following-split [] t (front ++ n ∷ []) a' in
          let g2 : following place live t ≡ front ++ n ∷ [] = ap (λ l. following place l t) w ∙ g ∙ append-nil (front ++ n ∷ []) in
          subst (λ z. following place live z ≡ rest ++ n ∷ []) eq_s (g2 ∙ ap (λ l. l ++ n ∷ []) eq_r)

  -- whoever lives is n or after n
  pub among-following : (live : List A) (n m : A) → HasAscendingPlaces place live → IsAmong n live → IsAmong m live → (n ≡ m) ⊎ IsAmong m (following place live n)
  among-following live n m a h i = let p = split_of live n h in find_in p.0 p.1 p.2
    where
      find_in : (front back : List A) → live ≡ front ++ n ∷ back → (n ≡ m) ⊎ IsAmong m (following place live n)
      find_in front back w =
          let f : back ++ front ≡ following place live n = sym (ap (λ l. following place l n) w ∙ following-split front n back (subst (HasAscendingPlaces place) w a)) in
          ⊎_elim
          (λ j. inr (subst (IsAmong m) f (among-right m back front j)))
          (λ j. ⊎_elim (λ e. inl e) (λ k. inr (subst (IsAmong m) f (among-left m back front k))) j)
          (among-cases m front (n ∷ back) (subst (IsAmong m) w i))

  pub among_live : (live : List A) (n m : A) → IsAmong m (following place live n) → IsAmong m live
  among_live live n m h = ⊎_elim (λ i. among_filtered _ m live i) (λ i. among_filtered _ m live i) (among-cases m (filter (λ x. ltb (place n) (place x)) live) (filter (λ x. ltb (place x) (place n)) live) h)

  -- nobody lives strictly between a member and the next one
  pub nobody_between : (live : List A) (n s m : A) (rest : List A) → HasAscendingPlaces place live → IsAmong n live → following place live n ≡ s ∷ rest → IsAmong m live
      → is_inside (place n) (place m) (place s) ≡ false
  nobody_between live n s m rest a h e i = let p = split_of live n h in outside p.0 p.1 p.2
    where
      outside : (front back : List A) → live ≡ front ++ n ∷ back → is_inside (place n) (place m) (place s) ≡ false
      outside front (t ∷ back) w =
          let a' : HasAscendingPlaces place (front ++ n ∷ t ∷ back) = subst (HasAscendingPlaces place) w a in
          let f : t ∷ (back ++ front) ≡ s ∷ rest = sym (following-split front n (t ∷ back) a') ∙ sym (ap (λ l. following place l n) w) ∙ e in
          let eq_s : t ≡ s = cons_head t (back ++ front) s rest f in
          let q = split_from_whole front n (t ∷ back) a' in
          let w2 : front ++ n ∷ t ∷ back ≡ (front ++ n ∷ []) ++ t ∷ back = sym (append_assoc front (n ∷ []) (t ∷ back)) in
          let q2 = split_from_whole (front ++ n ∷ []) t back (subst (HasAscendingPlaces place) w2 a') in
          let up : place n < place t = q.above.0 in
          let at_t : is_inside (place n) (place m) (place t) ≡ false =
          ⊎_elim
          (λ j. low (place n) (place m) (place t) up (all-among (λ z. place z < place n) m front q.below j))
          (λ j. ⊎_elim
          (λ k. at_n (place n) (place m) (place t) up (ap place k))
          (λ k. ⊎_elim
          (λ l. at_s (place n) (place m) (place t) up (ap place l))
          (λ l. high (place n) (place m) (place t) up (all-among (λ z. place t < place z) m back q2.above l)) k) j)
          (among-cases m front (n ∷ t ∷ back) (subst (IsAmong m) w i)) in
          subst (λ z. is_inside (place n) (place m) (place z) ≡ false) eq_s at_t
      outside [] [] w =
          let a' : HasAscendingPlaces place (n ∷ []) = subst (HasAscendingPlaces place) w a in
          let f : [] ≡ s ∷ rest = sym (following-split [] n [] a') ∙ sym (ap (λ l. following place l n) w) ∙ e in
          absurd (nil_cons s rest f)
      outside (t ∷ front) [] w =
          let a' : HasAscendingPlaces place ((t ∷ front) ++ n ∷ []) = subst (HasAscendingPlaces place) w a in
          let f : t ∷ front ≡ s ∷ rest = sym (following-split (t ∷ front) n [] a') ∙ sym (ap (λ l. following place l n) w) ∙ e in
          let eq_s : t ≡ s = cons_head t front s rest f in
          let q = split_from_whole (t ∷ front) n [] a' in
          let down : place t < place n = q.below.0 in
          let at_t : is_inside (place n) (place m) (place t) ≡ false =
          ⊎_elim
          (λ l. wrap_s (place n) (place m) (place t) down (ap place l))
          (λ j. ⊎_elim
          (λ k. wrap_mid (place n) (place m) (place t) down (all-among (λ z. place z < place n) m front q.below.1 k) (all-among (λ z. place t < place z) m front (all-left (λ z. place t < place z) front (n ∷ []) a'.0) k))
          (λ k. ⊎_elim (λ l. wrap_n (place n) (place m) (place t) down (ap place l)) (λ l. elim l [ ]) k)
          (among-cases m front (n ∷ []) j))
          (subst (IsAmong m) w i) in
          subst (λ z. is_inside (place n) (place m) (place z) ≡ false) eq_s at_t

  pub same_member : (live : List A) (m x : A) → HasAscendingPlaces place live → IsAmong m live → IsAmong x live → place m ≡ place x → m ≡ x
  same_member [] m x a h i e = elim h [ ]
  same_member (y ∷ ys) m x a (inl h) (inl i) e = sym h ∙ i
  same_member (y ∷ ys) m x a (inl h) (inr i) e = let l : place y < place x = all-among (λ z. place y < place z) x ys a.0 i in let g : place y ≡ place m = ap place h in absurd (omega arith)
  same_member (y ∷ ys) m x a (inr h) (inl i) e = let l : place y < place m = all-among (λ z. place y < place z) m ys a.0 h in let g : place y ≡ place x = ap place i in absurd (omega arith)
  same_member (y ∷ ys) m x a (inr h) (inr i) e = same_member ys m x a.1 h i e

  pub ascending_filter : (p : A → Bool) (l : List A) → HasAscendingPlaces place l → HasAscendingPlaces place (filter p l)
  ascending_filter p [] a = tt
  ascending_filter p (x ∷ xs) a = kept (p x) (ascending_filter p xs a.1) (all_kept xs a.0)
    where
      all_kept : (ys : List A) → AllByRecursion (λ y. place x < place y) ys → AllByRecursion (λ y. place x < place y) (filter p ys)
      all_kept ys b = filter_gives p (λ y. place x < place y) ys (all_weaker (λ y. place x < place y) (λ y. p y ≡ true → place x < place y) ys (λ y h t. h) b)

      kept : (b : Bool) → HasAscendingPlaces place (filter p xs) → AllByRecursion (λ y. place x < place y) (filter p xs) → HasAscendingPlaces place (cond b (x ∷ filter p xs) (filter p xs))
      kept true r h = (h, r)
      kept false r h = r

  -- from a place on all members are found
  pub all_from_place : (live : List A) (at : ℕ) (m : A) → IsAmong m live → IsAmong m (from_place place live at)
  all_from_place live at m h =
      ⊎_elim
      (λ l. among-right m (filter (λ z. leb at (place z)) live) (filter (λ z. ltb (place z) at) live) (among_filter (λ z. ltb (place z) at) m live h (lt-ltb (place m) at l)))
      (λ l. among-left m (filter (λ z. leb at (place z)) live) (filter (λ z. ltb (place z) at) live) (among_filter (λ z. leb at (place z)) m live h (le-leb at (place m) l)))
      (cases_lt (place m) at)

  pub from_place_live : (live : List A) (at : ℕ) (m : A) → IsAmong m (from_place place live at) → IsAmong m live
  from_place_live live at m h = ⊎_elim (λ i. among_filtered (λ z. leb at (place z)) m live i) (λ i. among_filtered (λ z. ltb (place z) at) m live i) (among-cases m (filter (λ z. leb at (place z)) live) (filter (λ z. ltb (place z) at) live) h)
