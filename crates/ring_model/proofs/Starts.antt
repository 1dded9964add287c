-- Where a round begins: after stops, and after a join.
use Rattle.std.proofs.Common.{◌≡◌, ℕ, zero, suc, ◌+◌, ◌-◌, ◌*◌, ◌<◌, ◌≤◌, Bool, true, false, cond, not, List, [], ◌∷◌, ◌++◌, length, take, filter, min, Some, None, refl, sym, ap, ◌∙◌, subst, arith, inl, inr, ⊎_elim, ◌⊎◌, length-take, length-append, ltb, leb, eqb}
use Rattle.std.specs.List.{AllByRecursion, find}
use Rattle.std.proofs.lemmas.Bool.{cases_eq, cases_Bool, cases_lt, cond-true, ne_eqb, eq-eqb, not_from_false, not_from_true, le-ltb, ltb-true, ltb-false}
use Rattle.std.proofs.lemmas.Bool.Decides.{nat_tests}
use Rattle.std.proofs.lemmas.List.{take_all, take_min, take-append-le, append-nil}
use Rattle.std.proofs.lemmas.List.Elements.{filter-append}
use Rattle.std.proofs.lemmas.List.Filters.{length-filter_both}
use Rattle.ring_model.specs.Arc.{is_strictly_between as is_inside}
use Rattle.ring_model.specs.Members.{IsAmong, first, HasAscendingPlaces, following, from_place, is_other}
use Rattle.ring_model.specs.Ring.{Links, IsCovered}
use Rattle.ring_model.specs.Route.{owners_part}
use Rattle.ring_model.proofs.Lists.{among-left, all-among, all_from, filter_all, among_filtered, filter-keeps, filter-drops, filter_swap, filter_front, find_filter, length_both, length_front, none_some, take_first}
use Rattle.ring_model.proofs.Members.{following-next, among_live, same_member}
use Rattle.ring_model.proofs.Owners.{from_place_is, quiet_arc, apart_from_next}
use Rattle.ring_model.proofs.Passes.{IsReadyAt, IsSound}

module _ {A : Type 0} (place : A → ℕ) where
  pub following-filter : (p : A → Bool) (live : List A) (n : A) → filter p (following place live n) ≡ following place (filter p live) n
  following-filter p live n =
      filter-append p (filter (λ m. ltb (place n) (place m)) live) (filter (λ m. ltb (place m) (place n)) live)
      ∙ rw (filter_swap p (λ m. ltb (place n) (place m)) live, filter_swap p (λ m. ltb (place m) (place n)) live) refl

  pub length-following : (live : List A) (n : A) → length (following place live n) ≤ length live
  length-following live n =
      let b = length_both (λ m. ltb (place n) (place m)) (λ m. ltb (place m) (place n)) (λ m t. le-ltb (place m) (place n) (let l = ltb-true (place n) (place m) t in omega arith)) live in
      omega (arith, length-append (filter (λ m. ltb (place n) (place m)) live) (filter (λ m. ltb (place m) (place n)) live))

  -- ---- after stops

  -- a list that was right before fewer than r members stopped is covered
  pub covered_after_stops : (r : ℕ) (before : List A) (lives : A → Bool) (n : A) (list : List A) → length (filter (λ m. not (lives m)) before) < r → list ≡ take (2 * r) (following place before n) → IsCovered place r (filter lives before) lives n list
  covered_after_stops r before lives n list few e =
      record { next = next; enough = enough; full = full }
    where
      kept : filter lives (following place before n) ≡ following place (filter lives before) n
      kept = following-filter lives before n

      next : filter lives list ≡ take (length (filter lives list)) (following place (filter lives before) n)
      next = subst (λ l. filter lives l ≡ take (length (filter lives l)) (following place (filter lives before) n)) (sym e) (subst (λ l. filter lives (take (2 * r) (following place before n)) ≡ take (length (filter lives (take (2 * r) (following place before n)))) l) kept (filter_front lives (2 * r) (following place before n)))

      dead : length (filter (λ m. not (lives m)) list) < r
      dead =
          let a = ap (λ l. length (filter (λ m. not (lives m)) l)) e in
          let b = length_front (λ m. not (lives m)) (2 * r) (following place before n) in
          let c = ap length (following-filter (λ m. not (lives m)) before n) in
          let d = length-following (filter (λ m. not (lives m)) before) n in
          omega arith

      both : length (filter lives list) + length (filter (λ m. not (lives m)) list) ≡ length list
      both = length-filter_both lives (λ m. not (lives m)) (λ x. refl) list

      full : 2 * r ≤ length list → r ≤ length (filter lives list)
      full h = let d = dead in let b = both in omega arith

      enough : (r ≤ length (filter lives list)) ⊎ (length (following place (filter lives before) n) ≤ length (filter lives list))
      enough =
          ⊎_elim
          (λ h. inl (full (let l = ap length e ∙ length-take (2 * r) (following place before n) in omega arith)))
          (λ h. inr (let whole = e ∙ take_all (2 * r) (following place before n) h in let l = ap length (ap (filter lives) whole ∙ kept) in omega arith))
          (cases_lt (2 * r) (length (following place before n)))

  -- a ring whose nodes are covered and whose predecessors live is ready for the passes, whoever x is
  pub sound_after_stops : (r : ℕ) (pos : 1 ≤ r) (live : List A) (lives : A → Bool) (asc : HasAscendingPlaces place live) (lives_all : (m : A) → IsAmong m live → lives m ≡ true) (x : A) (lx : IsAmong x live) (ring : A → Links A)
      → ((m b : A) → IsAmong m live → (ring m).before ≡ Some b → IsAmong b live) → ((m : A) → IsAmong m live → IsCovered place r live lives m (ring m).list) → IsSound place r pos live lives asc lives_all x lx ring
  sound_after_stops r pos live lives asc lives_all x lx ring befores covered =
      record {
        befores = befores;
        firsts = λ m lm. inl (same m lm);
        lone = λ m lm e v. absurd (none_some x (sym v ∙ same m lm ∙ ap first e));
      }
    where
      front : (k : ℕ) (l : List A) → (r ≤ k) ⊎ (length l ≤ k) → first (take k l) ≡ first l
      front zero [] h = refl
      front zero (z ∷ zs) h = absurd (⊎_elim (λ i. omega arith) (λ i. omega arith) h)
      front (suc k) [] h = refl
      front (suc k) (z ∷ zs) h = refl

      same : (m : A) → IsAmong m live → find lives (ring m).list ≡ first (following place live m)
      same m lm =
          find_filter lives (ring m).list
          ∙ ap first (covered m lm).next
          ∙ front (length (filter lives (ring m).list)) (following place live m)
          (⊎_elim
          (λ h. inl (let l = ap length (covered m lm).next in let n = length-take (length (filter lives (ring m).list)) (following place live m) in h))
          (λ h. inr h)
          (covered m lm).enough)

  -- ---- a ring whose lists are right

  -- right lists are covered
  pub covered_right : (r : ℕ) (live : List A) (lives : A → Bool) (n : A) (list : List A) → ((m : A) → IsAmong m live → lives m ≡ true) → list ≡ take (2 * r) (following place live n) → IsCovered place r live lives n list
  covered_right r live lives n list all e =
      let kept : filter lives list ≡ list = filter_all lives list (all_from (λ m. lives m ≡ true) list (λ m i. all m (among_live place live n m (among_front (2 * r) m (following place live n) (subst (IsAmong m) e i))))) in
      let l : length list ≡ min (2 * r) (length (following place live n)) = ap length e ∙ length-take (2 * r) (following place live n) in
      let k : length (filter lives list) ≡ length list = ap length kept in
      record {
        next = kept ∙ e ∙ sym (take_min (2 * r) (following place live n)) ∙ ap (λ z. take z (following place live n)) (sym (k ∙ l));
        enough = ⊎_elim (λ h. inl (omega arith)) (λ h. inr (omega arith)) (cases_lt (2 * r) (length (following place live n)));
        full = λ h. omega arith;
      }
    where
      among_front : (k : ℕ) (m : A) (xs : List A) → IsAmong m (take k xs) → IsAmong m xs
      among_front zero m xs h = elim h [ ]
      among_front (suc k) m [] h = elim h [ ]
      among_front (suc k) m (z ∷ zs) (inl e) = inl e
      among_front (suc k) m (z ∷ zs) (inr h) = inr (among_front k m zs h)

  -- the owners' part of the last route is then the next 2r members from the key on
  pub owners_part_right : (r : ℕ) (live : List A) (lives : A → Bool) (n : A) (list : List A) (key : ℕ) → 1 ≤ r → HasAscendingPlaces place live → IsAmong n live → ((m : A) → IsAmong m live → lives m ≡ true)
      → list ≡ take (2 * r) (following place live n) → AllByRecursion (λ m. lives m ≡ true → is_inside (place n) (place m) key ≡ false) list
      → owners_part place r n list key ≡ take (2 * r) (from_place place live key)
  owners_part_right r live lives n list key pos a h all e quiet =
      let lives_in : (m : A) → IsAmong m list → lives m ≡ true = λ m i. all m (among_live place live n m (among_taken (2 * r) m (following place live n) (subst (IsAmong m) e i))) in
      let out : AllByRecursion (λ m. is_inside (place n) (place m) key ≡ false) list = all_from (λ m. is_inside (place n) (place m) key ≡ false) list (λ m i. all-among (λ z. lives z ≡ true → is_inside (place n) (place z) key ≡ false) m list quiet i (lives_in m i)) in
      let kept : filter (λ m. not (is_inside (place n) (place m) key)) list ≡ list = filter_all _ list (all_from (λ m. not (is_inside (place n) (place m) key) ≡ true) list (λ m i. not_from_false (is_inside (place n) (place m) key) (all-among (λ z. is_inside (place n) (place z) key ≡ false) m list out i))) in
      let nobody : AllByRecursion (λ m. is_inside (place n) (place m) key ≡ false) (following place live n) = none_inside (following place live n) refl (subst (AllByRecursion (λ m. is_inside (place n) (place m) key ≡ false)) e out) in
      ap (λ l. l ++ cond (ltb (length list) (2 * r)) (n ∷ []) []) kept
      ∙ whole (ltb (length list) (2 * r)) refl
      ∙ sym (ap (take (2 * r)) (from_place_is place live n key a h nobody))
    where
      among_taken : (k : ℕ) (m : A) (xs : List A) → IsAmong m (take k xs) → IsAmong m xs
      among_taken zero m xs h = elim h [ ]
      among_taken (suc k) m [] h = elim h [ ]
      among_taken (suc k) m (z ∷ zs) (inl e) = inl e
      among_taken (suc k) m (z ∷ zs) (inr h) = inr (among_taken k m zs h)

      none_inside : (f : List A) → following place live n ≡ f → AllByRecursion (λ m. is_inside (place n) (place m) key ≡ false) (take (2 * r) (following place live n)) → AllByRecursion (λ m. is_inside (place n) (place m) key ≡ false) (following place live n)
      none_inside [] g t = subst (AllByRecursion (λ m. is_inside (place n) (place m) key ≡ false)) (sym g) tt
      none_inside (x ∷ rest) g t =
          let t2 : AllByRecursion (λ m. is_inside (place n) (place m) key ≡ false) (x ∷ take (2 * r - 1) rest) = subst (AllByRecursion (λ m. is_inside (place n) (place m) key ≡ false)) (ap (take (2 * r)) g ∙ take_first (2 * r) x rest (omega arith)) t in
          quiet_arc place live n x rest key a h g (apart_from_next place live n x (subst (IsAmong x) (sym g) (inl refl))) t2.0

      whole : (b : Bool) → ltb (length list) (2 * r) ≡ b → list ++ cond b (n ∷ []) [] ≡ take (2 * r) (following place live n ++ n ∷ [])
      whole true t =
          let l : length list ≡ min (2 * r) (length (following place live n)) = ap length e ∙ length-take (2 * r) (following place live n) in
          let s : length list < 2 * r = ltb-true (length list) (2 * r) t in
          let all_of : list ≡ following place live n = e ∙ take_all (2 * r) (following place live n) (omega arith) in
          ap (λ z. z ++ n ∷ []) all_of ∙ sym (take_all (2 * r) (following place live n ++ n ∷ []) (omega (arith, length-append (following place live n) (n ∷ []))))
      whole false t =
          let l : length list ≡ min (2 * r) (length (following place live n)) = ap length e ∙ length-take (2 * r) (following place live n) in
          let s : 2 * r ≤ length list = ltb-false (length list) (2 * r) t in
          append-nil list ∙ e ∙ sym (take-append-le (2 * r) (following place live n) (n ∷ []) (omega arith))

  -- ---- after a join

  -- two tests in turn are one
  filter_two : {X : Type 0} (p q s : X → Bool) → ((z : X) → q z ≡ true → p z ≡ s z) → ((z : X) → q z ≡ false → s z ≡ false) → (xs : List X) → filter p (filter q xs) ≡ filter s xs
  filter_two p q s f g [] = refl
  filter_two p q s f g (z ∷ zs) =
      let rest = filter_two p q s f g zs in
      ⊎_elim
      (λ b. ap (filter p) (filter-keeps q z zs b) ∙ ⊎_elim
      (λ a. filter-keeps p z (filter q zs) a ∙ ap (λ l. z ∷ l) rest ∙ sym (filter-keeps s z zs (sym (f z b) ∙ a)))
      (λ a. filter-drops p z (filter q zs) a ∙ rest ∙ sym (filter-drops s z zs (sym (f z b) ∙ a)))
      (cases_Bool (p z)))
      (λ b. ap (filter p) (filter-drops q z zs b) ∙ rest ∙ sym (filter-drops s z zs (g z b)))
      (cases_Bool (q z))

  other_up : (x z : ℕ) → not (eqb z x) ≡ true → leb x z ≡ ltb x z
  other_up x z h = grind (arith, nat_tests)

  same_up : (x z : ℕ) → not (eqb z x) ≡ false → ltb x z ≡ false
  same_up x z h = grind (arith, nat_tests)

  same_down : (x z : ℕ) → not (eqb z x) ≡ false → ltb z x ≡ false
  same_down x z h = grind (arith, nat_tests)

  -- the members from a new node's place on, before it joins, are those after it
  pub from_place_new : (live : List A) (x : A) → from_place place (filter (is_other place x) live) (place x) ≡ following place live x
  from_place_new live x =
      rw (
        filter_two (λ m. leb (place x) (place m)) (is_other place x) (λ m. ltb (place x) (place m)) (λ z h. other_up (place x) (place z) h) (λ z h. same_up (place x) (place z) h) live,
        filter_two (λ m. ltb (place m) (place x)) (is_other place x) (λ m. ltb (place m) (place x)) (λ z h. refl) (λ z h. same_down (place x) (place z) h) live,
      ) refl

  pub sound_after_join : (r : ℕ) (pos : 1 ≤ r) (live : List A) (lives : A → Bool) (asc : HasAscendingPlaces place live) (lives_all : (m : A) → IsAmong m live → lives m ≡ true) (x : A) (lx : IsAmong x live) (ring : A → Links A)
      → ((m b : A) → IsAmong m live → (ring m).before ≡ Some b → IsAmong b live) → (ring x).list ≡ take (2 * r) (following place live x)
      → ((m : A) → IsAmong m live → (place m ≡ place x → ⊥) → (ring m).list ≡ take (2 * r) (following place (filter (is_other place x) live) m)) → IsSound place r pos live lives asc lives_all x lx ring
  sound_after_join r pos live lives asc lives_all x lx ring befores own others =
      record { befores = befores; firsts = firsts; lone = lone }
    where
      find_right : (l f : List A) → ((m : A) → IsAmong m f → IsAmong m live) → l ≡ take (2 * r) f → find lives l ≡ first f
      find_right l [] g e = ap (find lives) (e ∙ take_all (2 * r) [] (omega arith))
      find_right l (z ∷ zs) g e = ap (find lives) (e ∙ take_first (2 * r) z zs (omega arith)) ∙ cond-true (lives z) (Some z) (find lives (take (2 * r - 1) zs)) (lives_all z (g z (inl refl)))

      next_of : (m : A) → following place live m ≡ following place live m → following place (filter (is_other place x) live) m ≡ filter (is_other place x) (following place live m)
      next_of m h = sym (following-filter (is_other place x) live m)

      firsts : (m : A) → IsAmong m live → IsReadyAt place r pos live lives asc lives_all x lx m (find lives (ring m).list)
      firsts m lm = ⊎_elim at_x elsewhere (cases_eq (place m) (place x))
        where
          at_x : place m ≡ place x → IsReadyAt place r pos live lives asc lives_all x lx m (find lives (ring m).list)
          at_x q =
              let e : m ≡ x = same_member place live m x asc lm lx q in
              inl (subst (λ z. find lives (ring z).list ≡ first (following place live z)) (sym e) (find_right (ring x).list (following place live x) (λ z i. among_live place live x z i) own))

          by : (f : List A) → following place live m ≡ f → (place m ≡ place x → ⊥) → find lives (ring m).list ≡ first (filter (is_other place x) f) → IsReadyAt place r pos live lives asc lives_all x lx m (find lives (ring m).list)
          by [] g d v = inl (v ∙ sym (ap first g))
          by (z ∷ zs) g d v =
              ⊎_elim
              (λ q.
              let lz : IsAmong z live = among_live place live m z (subst (IsAmong z) (sym g) (inl refl)) in
              let e : z ≡ x = same_member place live z x asc lz lx q in
              let g2 : following place live m ≡ x ∷ zs = g ∙ ap (λ w. w ∷ zs) e in
              let after_x : following place live x ≡ zs ++ m ∷ [] = following-next place live m x zs asc lm g2 in
              let rest : filter (is_other place x) zs ≡ zs = filter_all (is_other place x) zs (all_from (λ w. is_other place x w ≡ true) zs (λ w i. not_from_false (eqb (place w) (place x)) (ne_eqb (place w) (place x) (apart_from_next place live x w (subst (IsAmong w) (sym after_x) (among-left w zs (m ∷ []) i)))))) in
              let drop_z = filter-drops (is_other place x) z zs (not_from_true (eqb (place z) (place x)) (eq-eqb (place z) (place x) q)) in
              inr (zs, g2, v ∙ ap first (drop_z ∙ rest)))
              (λ q. inl (v ∙ ap first (filter-keeps (is_other place x) z zs (not_from_false (eqb (place z) (place x)) (ne_eqb (place z) (place x) q))) ∙ sym (ap first g)))
              (cases_eq (place z) (place x))

          elsewhere : (place m ≡ place x → ⊥) → IsReadyAt place r pos live lives asc lives_all x lx m (find lives (ring m).list)
          elsewhere d =
              by (following place live m) refl d
              (find_right (ring m).list (following place (filter (is_other place x) live) m) (λ z i. among_filtered (is_other place x) z live (among_live place (filter (is_other place x) live) m z i)) (others m lm d)
              ∙ ap first (next_of m refl))

      lone : (m : A) → IsAmong m live → following place live m ≡ x ∷ [] → find lives (ring m).list ≡ None → (ring m).list ≡ []
      lone m lm e v =
          let d : place x ≡ place m → ⊥ = apart_from_next place live m x (subst (IsAmong x) (sym e) (inl refl)) in
          others m lm (λ q. d (sym q))
          ∙ ap (take (2 * r)) (next_of m refl ∙ ap (filter (is_other place x)) e ∙ filter-drops (is_other place x) x [] (not_from_true (eqb (place x) (place x)) (eq-eqb (place x) (place x) refl)))
          ∙ take_all (2 * r) [] (omega arith)
