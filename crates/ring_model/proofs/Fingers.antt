-- The third part of a round makes the fingers of a ring right.
use Rattle.std.proofs.Common.{◌≡◌, ℕ, zero, suc, ◌*◌, ◌<◌, ◌≤◌, Bool, true, List, [], ◌∷◌, length, take, set, Option, Some, refl, sym, ap, ◌∙◌, subst, arith, inl, inr, ⊎_elim, ◌⊎◌, length-set}
use Rattle.std.proofs.lemmas.Bool.{cases_eq}
use Rattle.std.proofs.lemmas.List.{get_or-set_same, get_or-set_other}
use Rattle.ring_model.specs.Members.{IsAmong, first, HasAscendingPlaces, following, from_place}
use Rattle.ring_model.specs.Ring.{Links, start, IsFinger}
use Rattle.ring_model.specs.Lookup.{AreNames}
use Rattle.ring_model.specs.Round.{with_finger, IsFingerFixed, AreFixed}
use Rattle.ring_model.specs.Round.AreFixed.{fixed, fixes}
use Rattle.ring_model.proofs.Lists.{among-cases, some_same, none_some, take_first, among_take, first_of}
use Rattle.ring_model.proofs.Members.{among_live, same_member, all_from_place, from_place_live}
use Rattle.ring_model.proofs.Rounds.{lookup_right}

-- the finger becomes the first of what was found
finger_set : {A : Type 0} (k r : ℕ) (found : Option (List A)) (l : List A) (f : A) (links : Links A) → 1 ≤ r → found ≡ Some (take (2 * r) l) → first l ≡ Some f → with_finger k found links ≡ record links { fingers = set links.fingers k f }
finger_set k r found [] f links pos e h = absurd (none_some f h)
finger_set k r found (x ∷ xs) f links pos e h =
    ap (λ o. with_finger k o links) (e ∙ ap (λ l. Some l) (take_first (2 * r) x xs (omega arith)))
    ∙ ap (λ z. record links { fingers = set links.fingers k z }) (some_same x f h)

module _ {A : Type 0} (place : A → ℕ) (r bits : ℕ) (pos : 1 ≤ r) (live : List A) (lives : A → Bool) (asc : HasAscendingPlaces place live) (living : (m : A) → lives m ≡ true → IsAmong m live) (all : (m : A) → IsAmong m live → lives m ≡ true) (names : List A) (few : length names ≤ 512) (named : (m : A) → IsAmong m live → IsAmong m names) where
  -- a ring whose lists are right
  pub record IsListed (ring : A → Links A) : Type 0 where
    pub lists : (m : A) → IsAmong m live → (ring m).list ≡ take (2 * r) (following place live m)
    pub sized : (m : A) → IsAmong m live → length (ring m).fingers ≡ bits
    pub known : (n m : A) → IsAmong n live → IsAmong m (ring n).fingers → IsAmong m names

  names_in : (ring : A → Links A) (n : A) → IsListed ring → IsAmong n live → AreNames live ring (n ∷ []) names
  names_in ring n s ln = record {
    few = few;
    first = λ m h. ⊎_elim (λ e. subst (λ z. IsAmong z names) e (named n ln)) (λ i. elim i [ ]) h;
    linked = λ z m lz h. ⊎_elim
        (λ i. named m (among_live place live z m (among_take (2 * r) m (following place live z) (subst (IsAmong m) (s.lists z lz) i))))
        (λ i. s.known z m lz i)
        (among-cases m (ring z).list (ring z).fingers h);
  }

  -- what fixing a finger does
  pub record Fixes (n : A) (k : ℕ) (old new : A → Links A) : Type 0 where
    pub finger : A
    pub lives_now : IsAmong finger live
    pub right : Some finger ≡ first (from_place place live (start place bits n k))
    pub fixed : new n ≡ record (old n) { fingers = set (old n).fingers k finger }

  pub fixing : (n : A) (k : ℕ) (old new : A → Links A) → IsFingerFixed place r bits lives n k old new → IsListed old → IsAmong n live → Fixes n k old new
  fixing n k old new f s ln =
      let found = lookup_right place r pos lives live old (start place bits n k) (n ∷ []) names f.trail f.found asc living all s.lists (names_in old n s ln) f.fates n (all n ln) (inl refl) f.lookup in
      let q = first_of (from_place place live (start place bits n k)) n (all_from_place place live (start place bits n k) n ln) in
      record {
        finger = q.0;
        lives_now = from_place_live place live (start place bits n k) q.0 q.2;
        right = sym q.1;
        fixed = f.fixed ∙ finger_set k r f.found (from_place place live (start place bits n k)) q.0 (old n) pos found q.1;
      }

  among_set : (xs : List A) (k : ℕ) (x m : A) → IsAmong m (set xs k x) → (x ≡ m) ⊎ IsAmong m xs
  among_set [] k x m h = inr h
  among_set (y ∷ ys) zero x m (inl e) = inl e
  among_set (y ∷ ys) zero x m (inr i) = inr (inr i)
  among_set (y ∷ ys) (suc k) x m (inl e) = inr (inl e)
  among_set (y ∷ ys) (suc k) x m (inr i) = ⊎_elim (λ e. inl e) (λ j. inr (inr j)) (among_set ys k x m i)

  -- what holds of the links of each node, of n's own with the new finger and of each other node's as before
  each_links : (P : A → Links A → Type 0) (n : A) (k : ℕ) (old new : A → Links A) → IsFingerFixed place r bits lives n k old new → (x : Fixes n k old new) → IsAmong n live
      → P n (record (old n) { fingers = set (old n).fingers k x.finger }) → ((m : A) → IsAmong m live → P m (old m)) → (m : A) → IsAmong m live → P m (new m)
  each_links P n k old new f x ln own others m lm =
      ⊎_elim
      (λ e. let q : m ≡ n = same_member place live m n asc lm ln e in subst (λ z. P z (new z)) (sym q) (subst (P n) (sym x.fixed) own))
      (λ d. subst (P m) (sym (f.others m (λ q. d (ap place q)))) (others m lm))
      (cases_eq (place m) (place n))

  listed_after : (n : A) (k : ℕ) (old new : A → Links A) → IsFingerFixed place r bits lives n k old new → IsListed old → IsAmong n live → IsListed new
  listed_after n k old new f s ln =
      let x = fixing n k old new f s ln in
      record {
        lists = each_links (λ m l. l.list ≡ take (2 * r) (following place live m)) n k old new f x ln (s.lists n ln) s.lists;
        sized = each_links (λ m l. length l.fingers ≡ bits) n k old new f x ln (length-set (old n).fingers k x.finger ∙ s.sized n ln) s.sized;
        known = λ y m ly. each_links (λ z l. IsAmong m l.fingers → IsAmong m names) n k old new f x ln
            (λ h. ⊎_elim (λ e. subst (λ z. IsAmong z names) e (named x.finger x.lives_now)) (λ i. s.known n m ln i) (among_set (old n).fingers k x.finger m h))
            (λ z lz h. s.known z m lz h) y ly;
      }

  -- the finger is right then, and those that were right are
  finger_after : (n : A) (k : ℕ) (old new : A → Links A) → IsFingerFixed place r bits lives n k old new → IsListed old → IsAmong n live → k < bits
      → (m : A) (j : ℕ) → IsAmong m live → (IsFinger place bits live m j (old m).fingers ⊎ ((n ≡ m) × (k ≡ j))) → IsFinger place bits live m j (new m).fingers
  finger_after n k old new f s ln kb m j lm h = by (fixing n k old new f s ln) h
    where
      by : Fixes n k old new → (IsFinger place bits live m j (old m).fingers ⊎ ((n ≡ m) × (k ≡ j))) → IsFinger place bits live m j (new m).fingers
      by x h =
          ⊎_elim
          (λ e. at_n x (same_member place live m n asc lm ln e) h)
          (λ d. subst (λ l. IsFinger place bits live m j l.fingers) (sym (f.others m (λ q. d (ap place q))))
          (⊎_elim (λ i. i) (λ i. absurd (d (ap place (sym i.0)))) h))
          (cases_eq (place m) (place n))
        where
          here : (x : Fixes n k old new) → IsFinger place bits live n k (set (old n).fingers k x.finger)
          here x =
              let size : length (old n).fingers ≡ bits = s.sized n ln in
              ap (λ z. Some z) (get_or-set_same (old n).fingers k x.finger n (omega arith)) ∙ x.right

          own : (x : Fixes n k old new) (i : ℕ) → (IsFinger place bits live n i (old n).fingers ⊎ (k ≡ i)) → IsFinger place bits live n i (set (old n).fingers k x.finger)
          own x i h =
              ⊎_elim
              (λ e. subst (λ z. IsFinger place bits live n z (set (old n).fingers k x.finger)) (sym e) (here x))
              (λ d. ap (λ z. Some z) (get_or-set_other (old n).fingers k i x.finger n d) ∙ ⊎_elim (λ e. e) (λ e. absurd (d (sym e))) h)
              (cases_eq i k)

          at_n : (x : Fixes n k old new) → m ≡ n → (IsFinger place bits live m j (old m).fingers ⊎ ((n ≡ m) × (k ≡ j))) → IsFinger place bits live m j (new m).fingers
          at_n x q h =
              subst (λ z. IsFinger place bits live z j (new z).fingers) (sym q)
              (subst (λ l. IsFinger place bits live n j l.fingers) (sym x.fixed)
              (own x j (⊎_elim (λ i. inl (subst (λ z. IsFinger place bits live z j (old z).fingers) q i)) (λ i. inr i.1) h)))

  -- after part 3 the ring is listed and each finger that was right or fixed is right
  pub fingers_after : {turns : List (A × ℕ)} {old new : A → Links A} → AreFixed place r bits lives turns old new → ((n : A) (k : ℕ) → IsAmong (n, k) turns → IsAmong n live × (k < bits)) → IsListed old
      → IsListed new × ((m : A) (j : ℕ) → IsAmong m live → (IsFinger place bits live m j (old m).fingers ⊎ IsAmong (m, j) turns) → IsFinger place bits live m j (new m).fingers)
  fingers_after fixed within s = (s, λ m j lm h. ⊎_elim (λ i. i) (λ i. elim i [ ]) h)
  fingers_after (fixes {n = n} {k = k} {old = old} {mid = mid} f more) within s =
      let here = within n k (inl refl) in
      let next = listed_after n k old mid f s here.0 in
      let rest = fingers_after more (λ m j h. within m j (inr h)) next in (
        rest.0,
        λ m j lm h. rest.1 m j lm (⊎_elim
            (λ i. inl (finger_after n k old mid f s here.0 here.1 m j lm (inl i)))
            (λ i. ⊎_elim
            (λ e. inl (finger_after n k old mid f s here.0 here.1 m j lm (inr (ap (λ p. p.0) e, ap (λ p. p.1) e))))
            (λ g. inr g)
            i)
            h),
      )
