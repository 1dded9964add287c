-- The route that a node computes is one in the sense of the laws on look-ups.
use Rattle.std.proofs.Common.{◌≡◌, ℕ, true, false, cond, List, [], ◌∷◌, ◌++◌, refl, sym, ◌∙◌, subst, arith, inl, inr, ⊎_elim, ◌⊎◌, eqb, append_assoc}
use Rattle.std.proofs.lemmas.Bool.{cases_Bool, cond-true, cond-false, eqb-true, eqb-false, true≢false}
use Rattle.std.proofs.lemmas.Bool.Decides.{nat_tests}
use Rattle.std.proofs.lemmas.List.{append-nil}
use Rattle.ring_model.specs.Arc.{is_strictly_between}
use Rattle.ring_model.specs.Members.{IsAmong, first}
use Rattle.ring_model.specs.Ring.{Links}
use Rattle.ring_model.specs.Route.{with_nearer, nearer_with, route_of, HasOneAtEach, IsNearestFirst, IsRoute}
use Rattle.ring_model.proofs.Lists.{among-left, among-right, among-cases, all-among, all_from}
use Rattle.ring_model.proofs.Arcs.{is_inside-later}

-- of two on an arc one is nearer to its end
other_nearer : (n x y key : ℕ) → is_strictly_between n x key ≡ true → is_strictly_between n y key ≡ true → (x ≡ y → ⊥) → is_strictly_between y x key ≡ false → is_strictly_between x y key ≡ true
other_nearer n x y key h i d j = grind (arith, nat_tests)

module _ {A : Type 0} (place : A → ℕ) where
  -- how an entry is put among others
  pub with_nearer-cases : (P : List A → Type 0) (key : ℕ) (x y : A) (ys : List A) → (place x ≡ place y → P (y ∷ ys)) → ((place x ≡ place y → ⊥) → is_strictly_between (place y) (place x) key ≡ true → P (x ∷ y ∷ ys))
      → ((place x ≡ place y → ⊥) → is_strictly_between (place y) (place x) key ≡ false → P (y ∷ with_nearer place key x ys)) → P (with_nearer place key x (y ∷ ys))
  with_nearer-cases P key x y ys same first later =
      ⊎_elim
      (λ e. subst P (sym (cond-true (eqb (place x) (place y)) (y ∷ ys) (cond (is_strictly_between (place y) (place x) key) (x ∷ y ∷ ys) (y ∷ with_nearer place key x ys)) e)) (same (eqb-true (place x) (place y) e)))
      (λ e. subst P (sym (cond-false (eqb (place x) (place y)) (y ∷ ys) (cond (is_strictly_between (place y) (place x) key) (x ∷ y ∷ ys) (y ∷ with_nearer place key x ys)) e))
      (⊎_elim
      (λ t. subst P (sym (cond-true (is_strictly_between (place y) (place x) key) (x ∷ y ∷ ys) (y ∷ with_nearer place key x ys) t)) (first (eqb-false (place x) (place y) e) t))
      (λ t. subst P (sym (cond-false (is_strictly_between (place y) (place x) key) (x ∷ y ∷ ys) (y ∷ with_nearer place key x ys) t)) (later (eqb-false (place x) (place y) e) t))
      (cases_Bool (is_strictly_between (place y) (place x) key))))
      (cases_Bool (eqb (place x) (place y)))

  among_with : (key : ℕ) (x : A) (ys : List A) (z : A) → IsAmong z (with_nearer place key x ys) → (x ≡ z) ⊎ IsAmong z ys
  among_with key x [] z = λ h. h
  among_with key x (y ∷ ys) z =
      with_nearer-cases (λ l. IsAmong z l → (x ≡ z) ⊎ IsAmong z (y ∷ ys)) key x y ys
      (λ e h. inr h)
      (λ d t h. h)
      (λ d t h. ⊎_elim (λ q. inr (inl q)) (λ i. ⊎_elim (λ q. inl q) (λ j. inr (inr j)) (among_with key x ys z i)) h)

  kept_with : (key : ℕ) (x : A) (ys : List A) (z : A) → IsAmong z ys → IsAmong z (with_nearer place key x ys)
  kept_with key x [] z = λ h. elim h [ ]
  kept_with key x (y ∷ ys) z =
      with_nearer-cases (λ l. IsAmong z (y ∷ ys) → IsAmong z l) key x y ys
      (λ e h. h)
      (λ d t h. inr h)
      (λ d t h. ⊎_elim (λ q. inl q) (λ i. inr (kept_with key x ys z i)) h)

  -- where one place has one member, the entry is put in
  put_with : (key : ℕ) (x : A) (ys : List A) → ((y : A) → IsAmong y ys → place x ≡ place y → x ≡ y) → IsAmong x (with_nearer place key x ys)
  put_with key x [] u = inl refl
  put_with key x (y ∷ ys) u =
      with_nearer-cases (λ l. IsAmong x l) key x y ys
      (λ e. inl (sym (u y (inl refl) e)))
      (λ d t. inl refl)
      (λ d t. inr (put_with key x ys (λ z i. u z (inr i))))

  ordered_with : (n : A) (key : ℕ) (x : A) (ys : List A) → is_strictly_between (place n) (place x) key ≡ true → ((y : A) → IsAmong y ys → is_strictly_between (place n) (place y) key ≡ true) → IsNearestFirst place key ys → IsNearestFirst place key (with_nearer place key x ys)
  ordered_with n key x [] ix iy o = (tt, tt)
  ordered_with n key x (y ∷ ys) ix iy o =
      with_nearer-cases (IsNearestFirst place key) key x y ys
      (λ e. o)
      (λ d t. ((t, all_from (λ z. is_strictly_between (place z) (place x) key ≡ true) ys (λ z i. is_inside-later (place z) (place y) (place x) key (all-among (λ w. is_strictly_between (place w) (place y) key ≡ true) z ys o.0 i) t)), o))
      (λ d t. (
        all_from (λ z. is_strictly_between (place z) (place y) key ≡ true) (with_nearer place key x ys) (λ z i.
            ⊎_elim
            (λ q. subst (λ w. is_strictly_between (place w) (place y) key ≡ true) q (other_nearer (place n) (place x) (place y) key ix (iy y (inl refl)) d t))
            (λ j. all-among (λ w. is_strictly_between (place w) (place y) key ≡ true) z ys o.0 j)
            (among_with key x ys z i)),
        ordered_with n key x ys ix (λ z i. iy z (inr i)) o.1,
      ))

  -- the entries found so far
  pub record AreFound (n : A) (key : ℕ) (seen found : List A) : Type 0 where
    pub inside : (m : A) → IsAmong m found → is_strictly_between (place n) (place m) key ≡ true
    pub whole : (m : A) → IsAmong m seen → is_strictly_between (place n) (place m) key ≡ true → IsAmong m found
    pub from : (m : A) → IsAmong m found → IsAmong m seen
    pub order : IsNearestFirst place key found

  found_with : (n : A) (key : ℕ) (seen found : List A) (xs : List A) → ((y z : A) → IsAmong y (seen ++ xs) → IsAmong z (seen ++ xs) → place y ≡ place z → y ≡ z) → AreFound n key seen found → AreFound n key (seen ++ xs) (nearer_with place n key xs found)
  found_with n key seen found [] u f = subst (λ l. AreFound n key l found) (sym (append-nil seen)) f
  found_with n key seen found (x ∷ xs) u f =
      let e : (seen ++ x ∷ []) ++ xs ≡ seen ++ x ∷ xs = append_assoc seen (x ∷ []) xs in
      subst (λ l. AreFound n key l (nearer_with place n key (x ∷ xs) found)) e
      (found_with n key (seen ++ x ∷ []) (cond (is_strictly_between (place n) (place x) key) (with_nearer place key x found) found) xs
      (λ y z i j. u y z (subst (IsAmong y) e i) (subst (IsAmong z) e j))
      (⊎_elim
      (λ t. subst (AreFound n key (seen ++ x ∷ [])) (sym (cond-true (is_strictly_between (place n) (place x) key) (with_nearer place key x found) found t)) (put t))
      (λ t. subst (AreFound n key (seen ++ x ∷ [])) (sym (cond-false (is_strictly_between (place n) (place x) key) (with_nearer place key x found) found t)) (left t))
      (cases_Bool (is_strictly_between (place n) (place x) key))))
    where
      put : is_strictly_between (place n) (place x) key ≡ true → AreFound n key (seen ++ x ∷ []) (with_nearer place key x found)
      put t = record {
        inside = λ m h. ⊎_elim (λ q. subst (λ z. is_strictly_between (place n) (place z) key ≡ true) q t) (λ i. f.inside m i) (among_with key x found m h);
        whole = λ m h i. ⊎_elim
            (λ j. kept_with key x found m (f.whole m j i))
            (λ j. ⊎_elim (λ q. subst (λ z. IsAmong z (with_nearer place key x found)) q (put_with key x found (λ y k. u x y (among-right x seen (x ∷ xs) (inl refl)) (among-left y seen (x ∷ xs) (f.from y k))))) (λ k. elim k [ ]) j)
            (among-cases m seen (x ∷ []) h);
        from = λ m h. ⊎_elim (λ q. among-right m seen (x ∷ []) (inl q)) (λ i. among-left m seen (x ∷ []) (f.from m i)) (among_with key x found m h);
        order = ordered_with n key x found t f.inside f.order;
      }

      left : is_strictly_between (place n) (place x) key ≡ false → AreFound n key (seen ++ x ∷ []) found
      left t = record {
        inside = f.inside;
        whole = λ m h i. ⊎_elim
            (λ j. f.whole m j i)
            (λ j. ⊎_elim (λ q. absurd (true≢false (sym i ∙ subst (λ z. is_strictly_between (place n) (place z) key ≡ false) q t))) (λ k. elim k [ ]) j)
            (among-cases m seen (x ∷ []) h);
        from = λ m h. among-left m seen (x ∷ []) (f.from m h);
        order = f.order;
      }

  -- where one place has one member among the entries, the computed route is a route
  pub route_is : (r : ℕ) (n : A) (links : Links A) (key : ℕ) → HasOneAtEach place links → IsRoute place r n links key (route_of place r n links key)
  route_is r n links key u =
      let none : AreFound n key [] [] = record { inside = λ m h. elim h [ ]; whole = λ m h i. elim h [ ]; from = λ m h. h; order = tt } in
      let lists = found_with n key [] [] links.list (λ y z i j. u y z (among-left y links.list links.fingers i) (among-left z links.list links.fingers j)) none in
      let all = found_with n key links.list (nearer_with place n key links.list []) links.fingers u lists in
      record { inside = all.inside; whole = all.whole; from = all.from; order = all.order; owners = refl }
