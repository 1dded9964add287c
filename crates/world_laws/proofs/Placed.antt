-- Lists of named things: one in its place, and those that a test of the names leaves.
use Rattle.std.proofs.Common.{◌≡◌, ⊎_elim, Bool, true, false, cond, List, [], ◌∷◌, map, filter, Option, Some, ℕ, refl, sym, ap, ◌∙◌, subst, Contains}
use Rattle.std.specs.List.{find}
use Rattle.std.specs.Str.{bytes_eq}
use Rattle.std.proofs.lemmas.Slice.Eq.{bytes_eq-Decides}
use Rattle.log_model.proofs.Lists.{from_filter, here, in_cons, in_nothing, there}
use Rattle.world_laws.specs.Invariant.{AreApart}
use Rattle.world_laws.proofs.SignedHeads.{from_map}
use Rattle.world_model.specs.World.{Participant, World, participant, with_participant}
use Rattle.world_laws.proofs.Frames.{found_mapped, into_map}

pub same_name : (a b : List ℕ) → bytes_eq a b ≡ true → a ≡ b
same_name a b e = (bytes_eq-Decides a b).0 e

pub is_name : (a b : List ℕ) → a ≡ b → bytes_eq a b ≡ true
is_name a b e = (bytes_eq-Decides a b).1 e

-- a test that isn't passed by one, and is by the other
pub differ : (b : Bool) → b ≡ true → b ≡ false → ⊥
differ true is not = cc not
differ false is not = cc is

pub other_name : (a b c : List ℕ) → a ≡ b → bytes_eq c a ≡ false → bytes_eq b c ≡ false
other_name a b c same other = by (bytes_eq b c) refl
  where
    by : (t : Bool) → bytes_eq b c ≡ t → bytes_eq b c ≡ false
    by true is = absurd (differ (bytes_eq c a) (is_name c a (sym (same_name b c is) ∙ sym same)) other)
    by false is = is

module _ {A : Type 0} (named : A → List ℕ) where
  abbrev pub find_named : List ℕ → List A → Option A
  find_named n xs = find (λ a. bytes_eq (named a) n) xs

  -- x in the place of the one of its name
  abbrev pub placed : A → A → A
  placed x a = cond (bytes_eq (named a) (named x)) x a

  pub found_some : (xs : List A) (n : List ℕ) → Contains (map named xs) n → (x : A) × (find_named n xs ≡ Some x)
  found_some [] n among = absurd (in_nothing n among)
  found_some (x ∷ xs) n among = by (bytes_eq (named x) n) refl (found_some xs n)
    where
      by : (b : Bool) → bytes_eq (named x) n ≡ b → (Contains (map named xs) n → (y : A) × (find_named n xs ≡ Some y)) → (y : A) × (cond b (Some x) (find_named n xs) ≡ Some y)
      by true is later = (x, refl)
      by false is again = again (⊎_elim (λ e. absurd (differ (bytes_eq (named x) n) (is_name (named x) n e) is)) (λ later. later) (in_cons (named x) (map named xs) n among))

  pub found_among : (xs : List A) (n : List ℕ) (x : A) → find_named n xs ≡ Some x → Contains xs x × (named x ≡ n)
  found_among [] n x is = cc is
  found_among (y ∷ xs) n x is = by (bytes_eq (named y) n) refl is (λ h. found_among xs n x h)
    where
      by : (b : Bool) → bytes_eq (named y) n ≡ b → cond b (Some y) (find_named n xs) ≡ Some x → (find_named n xs ≡ Some x → Contains xs x × (named x ≡ n)) → Contains (y ∷ xs) x × (named x ≡ n)
      by true same h later = let it : y ≡ x = cc h in (subst (Contains (y ∷ xs)) it (here y xs), ap named (sym it) ∙ same_name (named y) n same)
      by false other h later = (there y xs x (later h).0, (later h).1)

  pub names_placed : (x : A) (xs : List A) → map named (map (placed x) xs) ≡ map named xs
  names_placed x [] = refl
  names_placed x (a ∷ xs) = λ i. by (bytes_eq (named a) (named x)) refl i ∷ names_placed x xs i
    where
      by : (b : Bool) → bytes_eq (named a) (named x) ≡ b → named (cond b x a) ≡ named a
      by true is = sym (same_name (named a) (named x) is)
      by false is = refl

  -- who has another name is found as before
  pub find_other : (x : A) (n : List ℕ) → bytes_eq (named x) n ≡ false → (xs : List A) → find_named n (map (placed x) xs) ≡ find_named n xs
  find_other x n other [] = refl
  find_other x n other (a ∷ xs) = by (bytes_eq (named a) (named x)) refl (find_other x n other xs)
    where
      skips : bytes_eq (named a) n ≡ false → (b c : Bool) → b ≡ false → c ≡ false → (o p : Option A) → o ≡ p → cond b (Some x) o ≡ cond c (Some a) p
      skips is true c first second o p rest = cc first
      skips is false true first second o p rest = cc second
      skips is false false first second o p rest = rest

      by : (b : Bool) → bytes_eq (named a) (named x) ≡ b → find_named n (map (placed x) xs) ≡ find_named n xs → find_named n (cond b x a ∷ map (placed x) xs) ≡ find_named n (a ∷ xs)
      by true is rest = let not_it : bytes_eq (named a) n ≡ false = subst (λ m. bytes_eq m n ≡ false) (sym (same_name (named a) (named x) is)) other in
          skips not_it (bytes_eq (named x) n) (bytes_eq (named a) n) other not_it _ _ rest
      by false is rest = ap (λ o. cond (bytes_eq (named a) n) (Some a) o) rest

  -- it is found by its own name
  pub find_own : (x : A) (xs : List A) → Contains (map named xs) (named x) → find_named (named x) (map (placed x) xs) ≡ Some x
  find_own x [] among = absurd (in_nothing (named x) among)
  find_own x (a ∷ xs) among = by (bytes_eq (named a) (named x)) refl (find_own x xs)
    where
      itself : (b : Bool) → b ≡ true → (o : Option A) → cond b (Some x) o ≡ Some x
      itself true is o = refl
      itself false is o = cc is

      passes : (b : Bool) → b ≡ false → (o : Option A) → o ≡ Some x → cond b (Some a) o ≡ Some x
      passes true is o rest = cc is
      passes false is o rest = rest

      by : (b : Bool) → bytes_eq (named a) (named x) ≡ b → (Contains (map named xs) (named x) → find_named (named x) (map (placed x) xs) ≡ Some x) → find_named (named x) (cond b x a ∷ map (placed x) xs) ≡ Some x
      by true is again = itself (bytes_eq (named x) (named x)) (is_name (named x) (named x) refl) _
      by false is again = passes (bytes_eq (named a) (named x)) is _
          (again (⊎_elim (λ e. absurd (differ (bytes_eq (named a) (named x)) (is_name (named a) (named x) e) is)) (λ later. later) (in_cons (named a) (map named xs) (named x) among)))

  -- ---- those that a test of the names leaves

  pub names_left : (test : List ℕ → Bool) (xs : List A) → map named (filter (λ a. test (named a)) xs) ≡ filter test (map named xs)
  names_left test [] = refl
  names_left test (a ∷ xs) = by (test (named a)) (names_left test xs)
    where
      by : (b : Bool) → map named (filter (λ o. test (named o)) xs) ≡ filter test (map named xs) → map named (cond b (a ∷ filter (λ o. test (named o)) xs) (filter (λ o. test (named o)) xs)) ≡ cond b (named a ∷ filter test (map named xs)) (filter test (map named xs))
      by true rest = ap (λ ns. named a ∷ ns) rest
      by false rest = rest

  pub find_left : (test : List ℕ → Bool) (n : List ℕ) → test n ≡ true → (xs : List A) → find_named n (filter (λ a. test (named a)) xs) ≡ find_named n xs
  find_left test n passes [] = refl
  find_left test n passes (a ∷ xs) = by (test (named a)) refl (bytes_eq (named a) n) refl (find_left test n passes xs)
    where
      it : (b c : Bool) → b ≡ c → (o p : Option A) → o ≡ p → cond b (Some a) o ≡ cond c (Some a) p
      it b c same o p rest = λ i. cond (same i) (Some a) (rest i)

      gone : (c : Bool) → c ≡ false → (o p : Option A) → o ≡ p → o ≡ cond c (Some a) p
      gone true is o p rest = cc is
      gone false is o p rest = rest

      by : (b : Bool) → test (named a) ≡ b → (c : Bool) → bytes_eq (named a) n ≡ c → find_named n (filter (λ o. test (named o)) xs) ≡ find_named n xs
          → find_named n (cond b (a ∷ filter (λ o. test (named o)) xs) (filter (λ o. test (named o)) xs)) ≡ find_named n (a ∷ xs)
      by true is c same rest = it (bytes_eq (named a) n) (bytes_eq (named a) n) refl _ _ rest
      by false is true same rest = absurd (differ (test (named a)) (subst (λ m. test m ≡ true) (sym (same_name (named a) n same)) passes) is)
      by false is false same rest = gone (bytes_eq (named a) n) same _ _ rest

  pub apart_left : (test : A → Bool) (xs : List A) → AreApart (map named xs) → AreApart (map named (filter test xs))
  apart_left test [] apart = tt
  apart_left test (a ∷ xs) apart = by (test a) (apart_left test xs apart.1)
    where
      by : (b : Bool) → AreApart (map named (filter test xs)) → AreApart (map named (cond b (a ∷ filter test xs) (filter test xs)))
      by true rest = (
        λ twice. let found = from_map named (filter test xs) (named a) twice in apart.0 (subst (Contains (map named xs)) (sym found.2) (into_map named xs found.0 (from_filter test xs found.0 found.1).0)),
        rest,
      )
      by false rest = rest

-- tests that agree on them leave the same
pub same_left : {A : Type 0} (one other : A → Bool) (xs : List A) → ((x : A) → Contains xs x → one x ≡ other x) → filter one xs ≡ filter other xs
same_left one other [] same = refl
same_left one other (x ∷ xs) same = λ i. cond (same x (here x xs) i) (x ∷ same_left one other xs (λ y c. same y (there x xs y c)) i) (same_left one other xs (λ y c. same y (there x xs y c)) i)

-- ---- a participant in place of another of its name

pub found_in_place : (w : World) (n : List ℕ) (p q : Participant) → participant w n ≡ Some p → q.name ≡ p.name → participant (with_participant w q) n ≡ Some q
found_in_place w n p q is_p named =
    found_mapped (λ o. cond (bytes_eq o.name q.name) q o) same_place w.participants n p is_p
    ∙ ap (λ (b : Bool). Some (cond b q p)) (is_name p.name q.name (sym named))
  where
    same_place : (o : Participant) → (cond (bytes_eq o.name q.name) q o).name ≡ o.name
    same_place o = by (bytes_eq o.name q.name) refl
      where
        by : (b : Bool) → bytes_eq o.name q.name ≡ b → (cond b q o).name ≡ o.name
        by true e = sym (same_name o.name q.name e)
        by false e = refl
