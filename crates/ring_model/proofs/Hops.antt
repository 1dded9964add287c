-- In a settled ring each answer halves the way that is left.
use Rattle.std.proofs.Common.{◌≡◌, ℕ, zero, suc, ◌+◌, ◌-◌, ◌*◌, ◌%◌, ◌^◌, ◌<◌, ◌≤◌, Bool, true, false, cond, List, [], ◌∷◌, ◌++◌, length, filter, get_or, Option, Some, None, refl, sym, ap, ◌∙◌, subst, arith, inl, inr, ⊎_elim, ◌⊎◌, ltb, leb}
use Rattle.std.specs.List.{AllByRecursion}
use Rattle.std.proofs.lemmas.Bool.{false_from_ne_true, true≢false, cases_Bool, cases_lt, leb-true, le-leb, lt-ltb}
use Rattle.std.proofs.lemmas.Bool.Decides.{nat_tests}
use Rattle.std.proofs.Math.Nat.{mod-eq_of_lt, pow-succ'}
use Rattle.std.proofs.lemmas.Nat.{mod-mul-add, mod_below, pow_pos}
use Rattle.ring_model.specs.Arc.{is_strictly_between as is_inside}
use Rattle.ring_model.specs.Members.{IsAmong, first, HasAscendingPlaces, following, from_place}
use Rattle.ring_model.specs.Ring.{Links, start, IsSettledRing}
use Rattle.ring_model.specs.Route.{Route, HasOneAtEach, IsNearestFirst, IsRoute}
use Rattle.ring_model.specs.Lookup.{IsLookup, answers_in, IsFate}
use Rattle.ring_model.specs.Lookup.IsLookup.{over, spent, known, silent, answered}
use Rattle.ring_model.proofs.Lists.{among-right, among-cases, all-among, among_filtered, filter_gives, some_same, among_take, among_index, index_among, among_filter, first_among, first_of}
use Rattle.ring_model.proofs.Arcs.{is_inside-itself, is_inside-later}
use Rattle.ring_model.proofs.Members.{among_live, same_member, ascending_filter, all_from_place, from_place_live}

-- how far b is clockwise after a, of t places
abbrev pub ahead : ℕ → ℕ → ℕ → ℕ
ahead t a b = cond (ltb b a) ((b + t) - a) (b - a)

ahead_below : (t a b : ℕ) → a < t → b < t → ahead t a b < t
ahead_below t a b ha hb = grind (arith, nat_tests)

ahead_none : (t a b : ℕ) → a < t → b < t → ahead t a b ≡ 0 → a ≡ b
ahead_none t a b ha hb h = grind (arith, nat_tests)

-- the start of a finger
start_cases : (t n w : ℕ) → n < t → w < t → ((n + w) % t ≡ n + w) ⊎ (n + w ≡ t + (n + w) % t)
start_cases t n w hn hw = ⊎_elim (λ h. inl (mod-eq_of_lt h)) (λ h. inr (wrapped (n + w - t) (omega arith) (omega arith))) (cases_lt (n + w) t)
  where
    wrapped : (d : ℕ) → d < t → n + w ≡ 1 * t + d → n + w ≡ t + (n + w) % t
    wrapped d hd e = let m : (n + w) % t ≡ d = ap (λ z. z % t) e ∙ mod-mul-add 1 t d hd in omega arith

-- who is at least w after n is as far from the finger's start, less w
from_start : (t n w s m : ℕ) → n < t → m < t → s < t → ((s ≡ n + w) ⊎ (n + w ≡ t + s)) → w ≤ ahead t n m → ahead t s m + w ≡ ahead t n m
from_start t n w s m hn hm hs (inl e) h = rw e (grind (arith, nat_tests))
from_start t n w s m hn hm hs (inr e) h = grind (arith, nat_tests)

from_start_back : (t n w s f : ℕ) → n < t → f < t → s < t → w < t → ((s ≡ n + w) ⊎ (n + w ≡ t + s)) → ahead t s f + w < t → ahead t n f ≡ ahead t s f + w
from_start_back t n w s f hn hf hs hw (inl e) h = grind (arith, nat_tests)
from_start_back t n w s f hn hf hs hw (inr e) h = grind (arith, nat_tests)

-- one that is as near as p, which is strictly between n and the key, is strictly between too
nearer_inside : (t n p f key : ℕ) → n < t → p < t → f < t → is_inside n p key ≡ true → 0 < ahead t n f → ahead t n f ≤ ahead t n p → is_inside n f key ≡ true
nearer_inside t n p f key hn hp hf i a b = grind (arith, nat_tests)

-- one strictly between n and the key with p not after it
not_past : (t n p x key : ℕ) → n < t → p < t → x < t → is_inside n p key ≡ true → is_inside n x key ≡ true → is_inside p x key ≡ false → ahead t n x ≤ ahead t n p
not_past t n p x key hn hp hx i j k = grind (arith, nat_tests)

farther : (t n f x key : ℕ) → n < t → f < t → x < t → is_inside n f key ≡ true → is_inside f x key ≡ true → ahead t n f ≤ ahead t n x
farther t n f x key hn hf hx i j = grind (arith, nat_tests)

rest_of_way : (t n x p : ℕ) → n < t → x < t → p < t → ahead t n x ≤ ahead t n p → ahead t x p + ahead t n x ≡ ahead t n p
rest_of_way t n x p hn hx hp h = grind (arith, nat_tests)

-- the power of two at or under a number
power_under : (j e : ℕ) → 0 < e → e < 2 ^ j → (i : ℕ) × (i < j) × (2 ^ i ≤ e) × (e < 2 ^ i + 2 ^ i)
power_under zero e h l = absurd (omega arith)
power_under (suc j) e h l =
    ⊎_elim
    (λ k. let r = power_under j e h k in (r.0, (let q : r.0 < j = r.1 in omega arith), r.2, r.3))
    (λ k. (j, omega arith, k, let d = pow-succ' 2 j in omega arith))
    (cases_lt e (2 ^ j))

pow_up : (i j : ℕ) → i ≤ j → 2 ^ i ≤ 2 ^ j
pow_up i zero h = let e : i ≡ 0 = omega arith in rw e (omega arith)
pow_up i (suc j) h =
    ⊎_elim
    (λ k. let r = pow_up i j (omega arith) in let d = pow-succ' 2 j in omega arith)
    (λ (k : suc j ≤ i). let e : i ≡ suc j = omega arith in rw e (omega arith))
    (cases_lt i (suc j))

module _ {A : Type 0} (place : A → ℕ) where
  first_least : (l : List A) (f m : A) → HasAscendingPlaces place l → first l ≡ Some f → IsAmong m l → place f ≤ place m
  first_least [] f m a e h = elim h [ ]
  first_least (x ∷ xs) f m a e (inl q) = let h1 : place x ≡ place f = ap place (some_same x f e) in let h2 : place x ≡ place m = ap place q in omega arith
  first_least (x ∷ xs) f m a e (inr h) = let h1 : place x ≡ place f = ap place (some_same x f e) in let l : place x < place m = all-among (λ y. place x < place y) m xs a.0 h in omega arith

  -- the first member from a place on is the least far after it
  first_nearest : (t : ℕ) (live : List A) (s : ℕ) (f m : A) → HasAscendingPlaces place live → ((z : A) → IsAmong z live → place z < t) → s < t → first (from_place place live s) ≡ Some f → IsAmong m live → ahead t s (place f) ≤ ahead t s (place m)
  first_nearest t live s f m a w hs e i = by (filter (λ z. leb s (place z)) live) refl
    where
      lemma_up : (f m : ℕ) → s ≤ f → f < t → m < t → ((s ≤ m → f ≤ m)) → ahead t s f ≤ ahead t s m
      lemma_up f m h hf hm g = grind (arith, nat_tests)

      lemma_down : (f m : ℕ) → m < s → f ≤ m → m < t → ahead t s f ≤ ahead t s m
      lemma_down f m h g hm = grind (arith, nat_tests)

      by : (up : List A) → filter (λ z. leb s (place z)) live ≡ up → ahead t s (place f) ≤ ahead t s (place m)
      by [] q =
          let down : (z : A) → IsAmong z live → place z < s = λ z j. ⊎_elim (λ h. h) (λ h. absurd (nobody z (subst (IsAmong z) q (among_filter (λ y. leb s (place y)) z live j (le-leb s (place z) h))))) (cases_lt (place z) s) in
          let e2 : first (filter (λ z. ltb (place z) s) live) ≡ Some f = sym (ap (λ l. first (l ++ filter (λ z. ltb (place z) s) live)) q) ∙ e in
          lemma_down (place f) (place m) (down m i) (first_least (filter (λ z. ltb (place z) s) live) f m (ascending_filter place (λ z. ltb (place z) s) live a) e2 (among_filter (λ z. ltb (place z) s) m live i (lt-ltb (place m) s (down m i)))) (w m i)
        where
          nobody : (z : A) → IsAmong z [] → ⊥
          nobody z h = elim h [ ]
      by (u ∷ us) q =
          let e2 : first (filter (λ z. leb s (place z)) live) ≡ Some f = ap first q ∙ sym (ap (λ l. first (l ++ filter (λ z. ltb (place z) s) live)) q) ∙ e in
          let f_in : IsAmong f (filter (λ z. leb s (place z)) live) = first_among (filter (λ z. leb s (place z)) live) f e2 in
          let up_f : s ≤ place f = leb-true s (place f) (all-among (λ z. leb s (place z) ≡ true) f (filter (λ z. leb s (place z)) live) (passes (λ z. leb s (place z)) live) f_in) in
          lemma_up (place f) (place m) up_f (w f (among_filtered (λ z. leb s (place z)) f live f_in)) (w m i)
          (λ h. first_least (filter (λ z. leb s (place z)) live) f m (ascending_filter place (λ z. leb s (place z)) live a) e2 (among_filter (λ z. leb s (place z)) m live i (le-leb s (place m) h)))
        where
          passes : (p : A → Bool) (xs : List A) → AllByRecursion (λ z. p z ≡ true) (filter p xs)
          passes p xs = filter_gives p (λ z. p z ≡ true) xs (same xs)
            where
              same : (ys : List A) → AllByRecursion (λ z. p z ≡ true → p z ≡ true) ys
              same [] = tt
              same (y ∷ ys) = ((λ t. t), same ys)

p_inside : (n p x key : ℕ) → is_inside n x key ≡ true → is_inside p x key ≡ false → is_inside p n key ≡ false → (n ≡ p → ⊥) → is_inside n p key ≡ true
p_inside n p x key h i j d = grind (arith, nat_tests)

module _ {A : Type 0} (place : A → ℕ) (r bits : ℕ) (live : List A) (lives : A → Bool) (ring : A → Links A) (s : IsSettledRing place r bits live lives ring) where
  pub finger_among : (n f : A) (k : ℕ) → IsAmong n live → k < bits → first (from_place place live (start place bits n k)) ≡ Some f → IsAmong f (ring n).fingers
  finger_among n f k ln kb e =
      let size : length (ring n).fingers ≡ bits = s.sized n ln in
      subst (λ z. IsAmong z (ring n).fingers) (some_same (get_or (ring n).fingers k n) f (s.fingers n k ln kb ∙ e)) (index_among (ring n).fingers k n (omega arith))

  pub finger_lives : (n m : A) → IsAmong n live → IsAmong m (ring n).fingers → IsAmong m live
  finger_lives n m ln h =
      let i = among_index (ring n).fingers m n h in
      let size : length (ring n).fingers ≡ bits = s.sized n ln in
      let below : i.0 < length (ring n).fingers = i.1 in
      let f = first_of (from_place place live (start place bits n i.0)) n (all_from_place place live (start place bits n i.0) n ln) in
      let e : get_or (ring n).fingers i.0 n ≡ f.0 = some_same (get_or (ring n).fingers i.0 n) f.0 (s.fingers n i.0 ln (omega arith) ∙ f.1) in
      subst (λ z. IsAmong z live) (sym e ∙ i.2) (from_place_live place live (start place bits n i.0) f.0 f.2)

  pub named_live : (n m : A) → IsAmong n live → IsAmong m ((ring n).list ++ (ring n).fingers) → IsAmong m live
  named_live n m ln h =
      ⊎_elim
      (λ i. among_live place live n m (among_take (2 * r) m (following place live n) (subst (IsAmong m) (s.lists n ln) i)))
      (λ i. finger_lives n m ln i)
      (among-cases m (ring n).list (ring n).fingers h)

  -- all that a node knows are members, so that one place has one of them
  pub settled_has_one : (n : A) → IsAmong n live → HasOneAtEach place (ring n)
  settled_has_one n ln x y ix iy e = same_member place live x y s.ascending (named_live n x ln ix) (named_live n y ln iy) e

module _ {A : Type 0} (place : A → ℕ) (r bits : ℕ) (live : List A) (lives : A → Bool) (ring : A → Links A) (key : ℕ) (s : IsSettledRing place r bits live lives ring) (p : A) (lp : IsAmong p live) (last : (m : A) → IsAmong m live → is_inside (place p) (place m) key ≡ false) where
  -- the way from the nearest node that n names is less than half the way from n
  pub hop : (n x : A) (xs : List A) (route : Route A) (j : ℕ) → IsAmong n live → IsRoute place r n (ring n) key route → route.nearer ≡ x ∷ xs → j ≤ bits → ahead (2 ^ bits) (place n) (place p) < 2 ^ j
      → (i : ℕ) × (i < j) × (ahead (2 ^ bits) (place x) (place p) < 2 ^ i)
  hop n x xs route j ln ro e jb short =
      let x_in : IsAmong x route.nearer = subst (IsAmong x) (sym e) (inl refl) in
      let lx : IsAmong x live = named_live place r bits live lives ring s n x ln (ro.from x x_in) in
      let wn : place n < 2 ^ bits = s.within n ln in
      let wp : place p < 2 ^ bits = s.within p lp in
      let wx : place x < 2 ^ bits = s.within x lx in
      let ix = ro.inside x x_in in
      let apart : place n ≡ place p → ⊥ = λ q. true≢false (sym ix ∙ subst (λ z. is_inside z (place x) key ≡ false) (sym q) (last x lx)) in
      let ip : is_inside (place n) (place p) key ≡ true = p_inside (place n) (place p) (place x) key ix (last x lx) (last n ln) apart in
      let some : 0 < ahead (2 ^ bits) (place n) (place p) = ⊎_elim (λ h. h) (λ h. absurd (apart (ahead_none (2 ^ bits) (place n) (place p) wn wp (omega arith)))) (cases_lt 0 (ahead (2 ^ bits) (place n) (place p))) in
      let u = power_under j (ahead (2 ^ bits) (place n) (place p)) some short in
      let below : ahead (2 ^ bits) (place n) (place p) < 2 ^ bits = ahead_below (2 ^ bits) (place n) (place p) wn wp in
      (u.0, u.1, closer u.0 u.1 u.2 u.3 x_in lx wn wp wx ix ip below)
    where
      closer : (i : ℕ) → i < j → 2 ^ i ≤ ahead (2 ^ bits) (place n) (place p) → ahead (2 ^ bits) (place n) (place p) < 2 ^ i + 2 ^ i → IsAmong x route.nearer → IsAmong x live → place n < 2 ^ bits → place p < 2 ^ bits → place x < 2 ^ bits
          → is_inside (place n) (place x) key ≡ true → is_inside (place n) (place p) key ≡ true → ahead (2 ^ bits) (place n) (place p) < 2 ^ bits → ahead (2 ^ bits) (place x) (place p) < 2 ^ i
      closer i ij lo hi x_in lx wn wp wx ix ip below =
          let w : 2 ^ i < 2 ^ bits = omega arith in
          let at : ℕ = start place bits n i in
          let ws : at < 2 ^ bits = mod_below (place n + 2 ^ i) (2 ^ bits) (pow_pos bits) in
          let sc = start_cases (2 ^ bits) (place n) (2 ^ i) wn w in
          let q = first_of (from_place place live at) p (all_from_place place live at p lp) in
          let f : A = q.0 in
          let lf : IsAmong f live = from_place_live place live at f q.2 in
          let wf : place f < 2 ^ bits = s.within f lf in
          let to_p : ahead (2 ^ bits) at (place p) + 2 ^ i ≡ ahead (2 ^ bits) (place n) (place p) = from_start (2 ^ bits) (place n) (2 ^ i) at (place p) wn wp ws sc lo in
          let near : ahead (2 ^ bits) at (place f) ≤ ahead (2 ^ bits) at (place p) = first_nearest place (2 ^ bits) live at f p s.ascending s.within ws q.1 lp in
          let to_f : ahead (2 ^ bits) (place n) (place f) ≡ ahead (2 ^ bits) at (place f) + 2 ^ i = from_start_back (2 ^ bits) (place n) (2 ^ i) at (place f) wn wf ws w sc (omega arith) in
          let pp : 0 < 2 ^ i = pow_pos i in
          let inside_f : is_inside (place n) (place f) key ≡ true = nearer_inside (2 ^ bits) (place n) (place p) (place f) key wn wp wf ip (omega arith) (omega arith) in
          let finger : IsAmong f (ring n).fingers = finger_among place r bits live lives ring s n f i ln (omega arith) q.1 in
          let f_in : IsAmong f route.nearer = ro.whole f (among-right f (ring n).list (ring n).fingers finger) inside_f in
          let order : IsNearestFirst place key (x ∷ xs) = subst (IsNearestFirst place key) e ro.order in
          let at_least : ahead (2 ^ bits) (place n) (place f) ≤ ahead (2 ^ bits) (place n) (place x) =
          ⊎_elim
          (λ g. let h : ahead (2 ^ bits) (place n) (place x) ≡ ahead (2 ^ bits) (place n) (place f) = ap (λ z. ahead (2 ^ bits) (place n) (place z)) g in omega arith)
          (λ g. farther (2 ^ bits) (place n) (place f) (place x) key wn wf wx inside_f (all-among (λ y. is_inside (place y) (place x) key ≡ true) f xs order.0 g))
          (subst (IsAmong f) e f_in) in
          let at_most : ahead (2 ^ bits) (place n) (place x) ≤ ahead (2 ^ bits) (place n) (place p) = not_past (2 ^ bits) (place n) (place p) (place x) key wn wp wx ip ix (last x lx) in
          let left : ahead (2 ^ bits) (place x) (place p) + ahead (2 ^ bits) (place n) (place x) ≡ ahead (2 ^ bits) (place n) (place p) = rest_of_way (2 ^ bits) (place n) (place x) (place p) wn wx wp at_most in
          omega arith

  -- from a node's answer on, at most j more answer where the way is below 2^j
  pub answers_after : {asked : List A} {owned : Option (List A)} {ps : List A} {trail : List (A × Option (Route A))} {found : Option (List A)} → IsLookup asked owned ps trail found → AllByRecursion (IsFate place r lives ring key) trail
      → (n : A) (route : Route A) (j : ℕ) → ps ≡ route.nearer → IsAmong n live → IsRoute place r n (ring n) key route → ((m : A) → IsAmong m asked → lives m ≡ true → is_inside (place n) (place m) key ≡ false)
      → j ≤ bits → ahead (2 ^ bits) (place n) (place p) < 2 ^ j → answers_in trail ≤ j
  answers_after over fates n route j e ln ro passed jb short = omega arith
  answers_after (spent many) fates n route j e ln ro passed jb short = omega arith
  answers_after (known {p = q} {ps = ps} k more) fates n route j e ln ro passed jb short =
      let q_in : IsAmong q route.nearer = subst (IsAmong q) e (inl refl) in
      absurd (true≢false (sym (ro.inside q q_in) ∙ passed q k (s.lives_all q (named_live place r bits live lives ring s n q ln (ro.from q q_in)))))
  answers_after (silent {p = q} {ps = ps} few new more) fates n route j e ln ro passed jb short =
      let q_in : IsAmong q route.nearer = subst (IsAmong q) e (inl refl) in
      absurd (true≢false (sym (s.lives_all q (named_live place r bits live lives ring s n q ln (ro.from q q_in))) ∙ fates.0))
  answers_after (answered {asked = asked} {p = q} {ps = ps} {route = there} few new more) fates n route j e ln ro passed jb short =
      let q_in : IsAmong q route.nearer = subst (IsAmong q) e (inl refl) in
      let h = hop n q ps route j ln ro (sym e) jb short in
      let i : ℕ = h.0 in
      let ij : i < j = h.1 in
      let rest = answers_after more fates.1 q there i refl (named_live place r bits live lives ring s n q ln (ro.from q q_in)) fates.0.1 (behind q_in) (omega arith) h.2 in
      omega arith
    where
      behind : IsAmong q route.nearer → (m : A) → IsAmong m (q ∷ asked) → lives m ≡ true → is_inside (place q) (place m) key ≡ false
      behind q_in m (inl g) lm = subst (λ z. is_inside (place q) (place z) key ≡ false) g (is_inside-itself (place q) key)
      behind q_in m (inr g) lm = false_from_ne_true (is_inside (place q) (place m) key) (λ t. true≢false (sym (is_inside-later (place n) (place q) (place m) key (ro.inside q q_in) t) ∙ passed m g lm))

  -- at most as many answers follow the first as the places have bits
  pub answers_from : {asked : List A} {owned : Option (List A)} {ps : List A} {trail : List (A × Option (Route A))} {found : Option (List A)} → IsLookup asked owned ps trail found → AllByRecursion (IsFate place r lives ring key) trail
      → ((m : A) → IsAmong m asked → lives m ≡ false) → answers_in trail ≤ suc bits
  answers_from over fates quiet = omega arith
  answers_from (spent many) fates quiet = omega arith
  answers_from (known k more) fates quiet = answers_from more fates quiet
  answers_from (silent {p = q} few new more) fates quiet = answers_from more fates.1 (λ m h. ⊎_elim (λ g. subst (λ z. lives z ≡ false) g fates.0) (λ g. quiet m g) h)
  answers_from (answered {asked = asked} {p = q} {route = there} few new more) fates quiet =
      let lq : IsAmong q live = s.living q fates.0.0 in
      let rest = answers_after more fates.1 q there bits refl lq fates.0.1
      (λ m h lm. ⊎_elim (λ g. subst (λ z. is_inside (place q) (place z) key ≡ false) g (is_inside-itself (place q) key)) (λ g. absurd (true≢false (sym lm ∙ quiet m g))) h)
      (omega arith) (ahead_below (2 ^ bits) (place q) (place p) (s.within q lq) (s.within p lp)) in
      omega arith

-- somebody is the last before the key
pub last_before : {A : Type 0} (place : A → ℕ) (key : ℕ) (x : A) (xs : List A) → (p : A) × IsAmong p (x ∷ xs) × ((m : A) → IsAmong m (x ∷ xs) → is_inside (place p) (place m) key ≡ false)
last_before place key x [] = (x, inl refl, λ m h. ⊎_elim (λ g. subst (λ z. is_inside (place x) (place z) key ≡ false) g (is_inside-itself (place x) key)) (λ g. elim g [ ]) h)
last_before place key x (y ∷ ys) =
    let q = last_before place key y ys in
    ⊎_elim
    (λ t. (
      x,
      inl refl,
      λ m h. ⊎_elim
          (λ g. subst (λ z. is_inside (place x) (place z) key ≡ false) g (is_inside-itself (place x) key))
          (λ g. false_from_ne_true (is_inside (place x) (place m) key) (λ u. true≢false (sym (is_inside-later (place q.0) (place x) (place m) key t u) ∙ q.2 m g)))
          h,
    ))
    (λ t. (q.0, inr q.1, λ m h. ⊎_elim (λ g. subst (λ z. is_inside (place q.0) (place z) key ≡ false) g t) (λ g. q.2 m g) h))
    (cases_Bool (is_inside (place q.0) (place x) key))

-- in a settled ring at most as many answered asks follow the first one as the places have bits
pub few_answers : {A : Type 0} (place : A → ℕ) (r bits : ℕ) (live : List A) (lives : A → Bool) (ring : A → Links A) (key : ℕ) (entries : List A) (trail : List (A × Option (Route A))) (found : Option (List A)) → IsSettledRing place r bits live lives ring
    → AllByRecursion (IsFate place r lives ring key) trail → IsLookup [] None entries trail found → (x : A) → IsAmong x live → answers_in trail ≤ suc bits
few_answers place r bits [] lives ring key entries trail found s fates k x lx = elim lx [ ]
few_answers place r bits (y ∷ ys) lives ring key entries trail found s fates k x lx =
    let q = last_before place key y ys in
    answers_from place r bits (y ∷ ys) lives ring key s q.0 q.1 q.2 k fates (λ m h. elim h [ ])
