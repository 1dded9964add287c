-- A look-up in a covered ring finds the owners.
use Rattle.std.proofs.Common.{◌≡◌, ℕ, suc, ◌≤◌, Bool, true, false, List, [], ◌∷◌, ◌++◌, length, take, filter, Option, Some, None, refl, sym, ap, ◌∙◌, subst, arith, inl, inr, ⊎_elim, ◌⊎◌, length-append}
use Rattle.std.specs.List.{AllByRecursion}
use Rattle.std.proofs.lemmas.Bool.{false_from_ne_true, true≢false}
use Rattle.ring_model.specs.Arc.{is_strictly_between}
use Rattle.ring_model.specs.Members.{IsAmong, owners}
use Rattle.ring_model.specs.Ring.{Links, IsCoveredRing}
use Rattle.ring_model.specs.Route.{Route, owners_part, IsRoute}
use Rattle.ring_model.specs.Lookup.{IsLookup, IsFate, AreNames}
use Rattle.ring_model.specs.Lookup.IsLookup.{over, spent, known, silent, answered}
use Rattle.ring_model.proofs.Lists.{among-left, among-right, among-cases, all_from}
use Rattle.ring_model.proofs.Arcs.{is_inside-itself, is_inside-later}
use Rattle.ring_model.proofs.Owners.{owners_are}
use Rattle.ring_model.proofs.Routes.{route_is}

-- no element twice
abbrev pub IsApart : {X : Type 0} → List X → Type 0
IsApart [] = Unit {0}
IsApart (x ∷ xs) = (IsAmong x xs → ⊥) × IsApart xs

-- a list without repeats that is as long as a list that has all its elements has all of that list's
pub all_asked : {X : Type 0} (xs ys : List X) → IsApart xs → ((x : X) → IsAmong x xs → IsAmong x ys) → length ys ≤ length xs → (y : X) → IsAmong y ys → IsAmong y xs
all_asked [] [] d f l y h = h
all_asked [] (z ∷ zs) d f l y h = absurd (omega arith)
all_asked {X = X} (x ∷ xs) ys d f l y h =
    let p = cut ys x (f x (inl refl)) in
    let front = p.0 in
    let back = p.1 in
    let e : ys ≡ front ++ x ∷ back = p.2 in
    let shorter : length (front ++ back) ≤ length xs = shorter_by front back (subst (λ l2. length l2 ≤ suc (length xs)) e l) in
    let within : (z : X) → IsAmong z xs → IsAmong z (front ++ back) = λ z i. drop_one z front back (λ q. d.0 (subst (λ w. IsAmong w xs) (sym q) i)) (subst (IsAmong z) e (f z (inr i))) in
    ⊎_elim
    (λ i. inr (all_asked xs (front ++ back) d.1 within shorter y (among-left y front back i)))
    (λ i. ⊎_elim (λ q. inl q) (λ j. inr (all_asked xs (front ++ back) d.1 within shorter y (among-right y front back j))) i)
    (among-cases y front (x ∷ back) (subst (IsAmong y) e h))
  where
    cut : (zs : List X) (z : X) → IsAmong z zs → (front : List X) × (back : List X) × (zs ≡ front ++ z ∷ back)
    cut [] z h = elim h [ ]
    cut (w ∷ ws) z (inl e) = ([], ws, ap (λ v. v ∷ ws) e)
    cut (w ∷ ws) z (inr h) = let r = cut ws z h in (w ∷ r.0, r.1, ap (λ vs. w ∷ vs) r.2)

    shorter_by : (front back : List X) → length (front ++ x ∷ back) ≤ suc (length xs) → length (front ++ back) ≤ length xs
    shorter_by front back i = omega (arith, length-append front (x ∷ back), length-append front back)

    drop_one : (z : X) (front back : List X) → (x ≡ z → ⊥) → IsAmong z (front ++ x ∷ back) → IsAmong z (front ++ back)
    drop_one z front back ne i =
        ⊎_elim
        (λ j. among-left z front back j)
        (λ j. ⊎_elim (λ q. absurd (ne q)) (λ k. among-right z front back k) j)
        (among-cases z front (x ∷ back) i)

module _ {A : Type 0} (place : A → ℕ) (r : ℕ) (live : List A) (lives : A → Bool) (ring : A → Links A) (key : ℕ) (c : IsCoveredRing place r live lives ring) (names : List A) (few : length names ≤ 512) (linked : (n m : A) → IsAmong n live → IsAmong m ((ring n).list ++ (ring n).fingers) → IsAmong m names) where
  -- the result is the owners' part of a live node's route, of whose list no live entry is strictly between that node and the key
  pub record HasFound (found : Option (List A)) : Type 0 where
    pub node : A
    pub here : IsAmong node live
    pub found_is : found ≡ Some (owners_part place r node (ring node).list key)
    pub quiet : AllByRecursion (λ m. lives m ≡ true → is_strictly_between (place node) (place m) key ≡ false) (ring node).list

  -- where the last answer is n's
  pub record IsAt (n : A) (asked : List A) (owned ps : List A) : Type 0 where
    pub here : IsAmong n live
    pub owned_is : owned ≡ owners_part place r n (ring n).list key
    pub passed : (m : A) → IsAmong m asked → lives m ≡ true → is_strictly_between (place n) (place m) key ≡ false
    pub rest : (m : A) → IsAmong m (ring n).list → is_strictly_between (place n) (place m) key ≡ true → IsAmong m asked ⊎ IsAmong m ps
    pub inside : (m : A) → IsAmong m ps → is_strictly_between (place n) (place m) key ≡ true
    pub named : (m : A) → IsAmong m ps → IsAmong m names
    pub asked_named : (m : A) → IsAmong m asked → IsAmong m names
    pub apart : IsApart asked

  pub found_at : (n : A) (asked owned ps : List A) → IsAt n asked owned ps → ((m : A) → IsAmong m (ring n).list → lives m ≡ true → is_strictly_between (place n) (place m) key ≡ true → IsAmong m asked) → HasFound (Some owned)
  found_at n asked owned ps s all =
      record {
        node = n;
        here = s.here;
        found_is = ap (λ l. Some l) s.owned_is;
        quiet = all_from (λ m. lives m ≡ true → is_strictly_between (place n) (place m) key ≡ false) (ring n).list (λ m i l.
            false_from_ne_true (is_strictly_between (place n) (place m) key) (λ t. true≢false (sym t ∙ s.passed m (all m i l t) l)));
      }

  pub at_next : (n : A) (asked owned : List A) (p : A) (ps : List A) (route : Route A) → (IsAmong p asked → ⊥) → ((m : A) → IsAmong m asked → lives m ≡ true → is_strictly_between (place p) (place m) key ≡ false)
      → IsAmong p names → ((m : A) → IsAmong m asked → IsAmong m names) → IsApart asked → lives p ≡ true → IsRoute place r p (ring p) key route → IsAt p (p ∷ asked) route.owners route.nearer
  at_next n asked owned p ps route new after pn an apart l route_is =
      let here : IsAmong p live = c.living p l in
      record {
        here = here;
        owned_is = route_is.owners;
        passed = passed;
        rest = λ m i t. inr (route_is.whole m (among-left m (ring p).list (ring p).fingers i) t);
        inside = route_is.inside;
        named = λ m i. linked p m here (route_is.from m i);
        asked_named = asked_named;
        apart = (new, apart);
      }
    where
      passed : (m : A) → IsAmong m (p ∷ asked) → lives m ≡ true → is_strictly_between (place p) (place m) key ≡ false
      passed m (inl e) lm = subst (λ z. is_strictly_between (place p) (place z) key ≡ false) e (is_inside-itself (place p) key)
      passed m (inr i) lm = after m i lm

      asked_named : (m : A) → IsAmong m (p ∷ asked) → IsAmong m names
      asked_named m (inl e) = subst (λ z. IsAmong z names) e pn
      asked_named m (inr i) = an m i

  pub from_answer : {asked : List A} {last : Option (List A)} {ps : List A} {trail : List (A × Option (Route A))} {found : Option (List A)}
      → IsLookup asked last ps trail found → AllByRecursion (IsFate place r lives ring key) trail → (n : A) (owned : List A) → last ≡ Some owned → IsAt n asked owned ps → HasFound found
  from_answer over fates n owned e s = subst HasFound (sym e) (found_at n _ owned _ s (λ m i l t. ⊎_elim (λ j. j) (λ j. elim j [ ]) (s.rest m i t)))
  from_answer (spent {asked = asked} many) fates n owned e s =
      subst HasFound (sym e) (found_at n _ owned _ s (λ m i l t. all_asked asked names s.apart s.asked_named (omega arith) m (linked n m s.here (among-left m (ring n).list (ring n).fingers i))))
  from_answer (known {asked = asked} {p = p} k more) fates n owned e s =
      from_answer more fates n owned e (record {
        here = s.here;
        owned_is = s.owned_is;
        passed = s.passed;
        rest = λ m i t. ⊎_elim (λ j. inl j) (λ j. ⊎_elim (λ q. inl (subst (λ z. IsAmong z asked) q k)) (λ h. inr h) j) (s.rest m i t);
        inside = λ m i. s.inside m (inr i);
        named = λ m i. s.named m (inr i);
        asked_named = s.asked_named;
        apart = s.apart;
      })
  from_answer (silent {p = p} few_asked new more) fates n owned e s =
      from_answer more fates.1 n owned e (record {
        here = s.here;
        owned_is = s.owned_is;
        passed = λ m i l. ⊎_elim (λ q. absurd (true≢false (sym l ∙ subst (λ z. lives z ≡ false) q fates.0))) (λ j. s.passed m j l) i;
        rest = λ m i t. ⊎_elim (λ j. inl (inr j)) (λ j. ⊎_elim (λ q. inl (inl q)) (λ h. inr h) j) (s.rest m i t);
        inside = λ m i. s.inside m (inr i);
        named = λ m i. s.named m (inr i);
        asked_named = λ m i. ⊎_elim (λ q. subst (λ z. IsAmong z names) q (s.named p (inl refl))) (λ j. s.asked_named m j) i;
        apart = (new, s.apart);
      })
  from_answer (answered {asked = asked} {p = p} {ps = ps} {route = route} few_asked new more) fates n owned e s =
      from_answer more fates.1 p route.owners refl
      (at_next n asked owned p ps route new
      (λ m i l. false_from_ne_true (is_strictly_between (place p) (place m) key) (λ t. true≢false (sym (is_inside-later (place n) (place p) (place m) key (s.inside p (inl refl)) t) ∙ s.passed m i l)))
      (s.named p (inl refl)) s.asked_named s.apart fates.0.0 fates.0.1)

  pub from_entries : {asked : List A} {last : Option (List A)} {ps : List A} {trail : List (A × Option (Route A))} {found : Option (List A)}
      → IsLookup asked last ps trail found → AllByRecursion (IsFate place r lives ring key) trail → ((m : A) → IsAmong m asked → lives m ≡ false) → ((m : A) → IsAmong m asked → IsAmong m names)
      → ((m : A) → IsAmong m ps → IsAmong m names) → IsApart asked → (e : A) → lives e ≡ true → IsAmong e ps → HasFound found
  from_entries over fates quiet an pn apart e l i = elim i [ ]
  from_entries (spent {asked = asked} many) fates quiet an pn apart e l i = absurd (true≢false (sym l ∙ quiet e (all_asked asked names apart an (omega arith) e (pn e i))))
  from_entries (known k more) fates quiet an pn apart e l i =
      ⊎_elim
      (λ q. absurd (true≢false (sym l ∙ subst (λ z. lives z ≡ false) q (quiet _ k))))
      (λ j. from_entries more fates quiet an (λ m h. pn m (inr h)) apart e l j)
      i
  from_entries (silent {p = p} few_asked new more) fates quiet an pn apart e l i =
      ⊎_elim
      (λ q. absurd (true≢false (sym l ∙ subst (λ z. lives z ≡ false) q fates.0)))
      (λ j. from_entries more fates.1 (λ m h. ⊎_elim (λ q. subst (λ z. lives z ≡ false) q fates.0) (λ k. quiet m k) h) (λ m h. ⊎_elim (λ q. subst (λ z. IsAmong z names) q (pn p (inl refl))) (λ k. an m k) h) (λ m h. pn m (inr h)) (new, apart) e l j)
      i
  from_entries (answered {asked = asked} {p = p} {ps = ps} {route = route} few_asked new more) fates quiet an pn apart e l i =
      from_answer more fates.1 p route.owners refl
      (at_next p asked route.owners p ps route new (λ m h lm. absurd (true≢false (sym lm ∙ quiet m h))) (pn p (inl refl)) an apart fates.0.0 fates.0.1)

-- a look-up in a covered ring whose entries have a live node, with at most 512 nodes named, ends with the last route of a live node before the key
pub lookup_ends : {A : Type 0} (place : A → ℕ) (r : ℕ) (live : List A) (lives : A → Bool) (ring : A → Links A) (key : ℕ) (entries names : List A) (trail : List (A × Option (Route A))) (found : Option (List A))
    → (c : IsCoveredRing place r live lives ring) → (n : AreNames live ring entries names) → AllByRecursion (IsFate place r lives ring key) trail → (e : A) → lives e ≡ true → IsAmong e entries
    → IsLookup [] None entries trail found → HasFound place r live lives ring key c names n.few n.linked found
lookup_ends place r live lives ring key entries names trail found c n fates e l i k =
    from_entries place r live lives ring key c names n.few n.linked k fates (λ m h. elim h [ ]) (λ m h. elim h [ ]) n.first tt e l i

-- so its first r live nodes are the owners
pub lookup_finds : {A : Type 0} (place : A → ℕ) (r : ℕ) (live : List A) (lives : A → Bool) (ring : A → Links A) (key : ℕ) (entries names : List A) (trail : List (A × Option (Route A))) (found : Option (List A))
    → IsCoveredRing place r live lives ring → AreNames live ring entries names → AllByRecursion (IsFate place r lives ring key) trail → (e : A) → lives e ≡ true → IsAmong e entries
    → IsLookup [] None entries trail found → (last : List A) × (found ≡ Some last) × (take r (filter lives last) ≡ owners place r live key)
lookup_finds place r live lives ring key entries names trail found c n fates e l i k =
    let h = lookup_ends place r live lives ring key entries names trail found c n fates e l i k in (
      owners_part place r h.node (ring h.node).list key,
      h.found_is,
      owners_are place r live lives h.node (ring h.node).list key c.positive c.ascending h.here (c.lives_all h.node h.here) (c.covered h.node h.here) h.quiet,
    )

-- what was asked counts by its members and its length alone
pub lookup_same : {A : Type 0} {asked : List A} {last : Option (List A)} {ps : List A} {trail : List (A × Option (Route A))} {found : Option (List A)} → IsLookup asked last ps trail found
    → (asked2 : List A) → length asked2 ≡ length asked → ((m : A) → IsAmong m asked → IsAmong m asked2) → ((m : A) → IsAmong m asked2 → IsAmong m asked) → IsLookup asked2 last ps trail found
lookup_same over asked2 e f g = over
lookup_same (spent many) asked2 e f g = spent (omega arith)
lookup_same (known {p = p} k more) asked2 e f g = known (f p k) (lookup_same more asked2 e f g)
lookup_same (silent {p = p} few new more) asked2 e f g =
    silent (omega arith) (λ h. new (g p h)) (lookup_same more (p ∷ asked2) (ap suc e) (λ m h. ⊎_elim (λ q. inl q) (λ i. inr (f m i)) h) (λ m h. ⊎_elim (λ q. inl q) (λ i. inr (g m i)) h))
lookup_same (answered {p = p} few new more) asked2 e f g =
    answered (omega arith) (λ h. new (g p h)) (lookup_same more (p ∷ asked2) (ap suc e) (λ m h. ⊎_elim (λ q. inl q) (λ i. inr (f m i)) h) (λ m h. ⊎_elim (λ q. inl q) (λ i. inr (g m i)) h))

-- the node asked last stands at either end
pub lookup_pushed : {A : Type 0} (asked : List A) (p : A) {last : Option (List A)} {ps : List A} {trail : List (A × Option (Route A))} {found : Option (List A)} → IsLookup (asked ++ p ∷ []) last ps trail found → IsLookup (p ∷ asked) last ps trail found
lookup_pushed asked p k =
    lookup_same k (p ∷ asked) (omega (arith, length-append asked (p ∷ [])))
    (λ m h. ⊎_elim (λ i. inr i) (λ i. ⊎_elim (λ q. inl q) (λ j. elim j [ ]) i) (among-cases m asked (p ∷ []) h))
    (λ m h. ⊎_elim (λ q. among-right m asked (p ∷ []) (inl q)) (λ i. among-left m asked (p ∷ []) i) h)
