-- What is decided, and what can be searched through: of the values that have some bounds it is known whether one has a property, whatever can be told of each.
use Rattle.std.proofs.Common.{◌≡◌, ◌⊎◌, inl, inr, ⊎_elim, ℕ, zero, suc, ◌+◌, ◌<◌, ◌≤◌, Bool, true, false, List, [], ◌∷◌, length, Option, refl, sym, subst, arith, Contains, eq-or-lt_of_le}
use Rattle.std.specs.Prelude.{IfSome, Some, None, IsTrue}
use Rattle.std.specs.List.{AllByRecursion}
use Rattle.std.proofs.Math.Decide.{map_dec, ℕ_discrete, dec_le}
use Rattle.log_model.proofs.Lists.{here, there, in_cons, in_nothing}

-- ---- decisions

pub dec_both : {A B : Type 0} → Dec A → Dec B → Dec (A × B)
dec_both (yes a) (yes b) = yes (a, b)
dec_both (yes a) (no g) = no (λ p. g p.1)
dec_both (no h) b = no (λ p. h p.0)

pub dec_if : {A B : Type 0} → Dec A → Dec B → Dec (A → B)
dec_if (no h) b = yes (λ a. absurd (h a))
dec_if (yes a) (yes b) = yes (λ x. b)
dec_if (yes a) (no g) = no (λ f. g (f a))

pub dec_not : {A : Type 0} → Dec A → Dec (A → ⊥)
dec_not (yes a) = no (λ h. h a)
dec_not (no h) = yes h

pub dec_true : (b : Bool) → Dec (IsTrue b)
dec_true true = yes refl
dec_true false = no (λ e. cc)

-- ---- lists and options

pub each_weaker : {A : Type 0} (P R : A → Type 0) → ((x : A) → P x → R x) → (xs : List A) → AllByRecursion P xs → AllByRecursion R xs
each_weaker P R weaker [] h = tt
each_weaker P R weaker (x ∷ xs) h = (weaker x h.0, each_weaker P R weaker xs h.1)

pub dec_each : {A : Type 0} (P : A → Type 0) → ((x : A) → Dec (P x)) → (xs : List A) → Dec (AllByRecursion P xs)
dec_each P d [] = yes tt
dec_each P d (x ∷ xs) = dec_both (d x) (dec_each P d xs)

pub dec_lists : {A : Type 0} → ((x y : A) → Dec (x ≡ y)) → (xs ys : List A) → Dec (xs ≡ ys)
dec_lists d [] [] = yes refl
dec_lists d [] (y ∷ ys) = no (λ e. cc)
dec_lists d (x ∷ xs) [] = no (λ e. cc)
dec_lists d (x ∷ xs) (y ∷ ys) = map_dec (λ p. rw (p.0, p.1) refl) (λ e. (cc, cc)) (dec_both (d x y) (dec_lists d xs ys))

pub dec_bytes : (xs ys : List ℕ) → Dec (xs ≡ ys)
dec_bytes xs ys = dec_lists ℕ_discrete xs ys

pub dec_contains : (xs : List ℕ) (x : ℕ) → Dec (Contains xs x)
dec_contains [] x = no (λ c. in_nothing x c)
dec_contains (y ∷ xs) x = by (ℕ_discrete y x) (dec_contains xs x)
  where
    by : Dec (y ≡ x) → Dec (Contains xs x) → Dec (Contains (y ∷ xs) x)
    by (yes e) d = yes (subst (λ z. Contains (y ∷ xs) z) e (here y xs))
    by (no h) (yes c) = yes (there y xs x c)
    by (no h) (no g) = no (λ c. ⊎_elim h g (in_cons y xs x c))

pub dec_option : {A : Type 0} (P : A → Type 0) → ((x : A) → Dec (P x)) → (o : Option A) → Dec (IfSome o P)
dec_option P d None = yes tt
dec_option P d (Some x) = d x

-- ---- searches

-- whether one of those values has a property is known, if that is known of each value
pub record Searches {A : Type 0} (P : A → Type 0) : Type 1 where
  pub search_for : (Q : A → Type 0) → ((x : A) → Dec (Q x)) → Dec ((x : A) × P x × Q x)

-- of some among them, which can be told
pub among : {A : Type 0} {P R : A → Type 0} → Searches P → ((x : A) → Dec (R x)) → ((x : A) → R x → P x) → Searches R
among {A} {P} {R} s told inside = record { search_for = find }
  where
    find : (Q : A → Type 0) → ((x : A) → Dec (Q x)) → Dec ((x : A) × R x × Q x)
    find Q d = map_dec to from (s.search_for (λ x. R x × Q x) (λ x. dec_both (told x) (d x)))
      where
        to : ((x : A) × P x × (R x × Q x)) → (x : A) × R x × Q x
        to w = (w.0, w.2.0, w.2.1)

        from : ((x : A) × R x × Q x) → (x : A) × P x × (R x × Q x)
        from w = (w.0, inside w.0 w.1, (w.1, w.2))

-- of what is made of those
pub by_parts : {A B : Type 0} {P : A → Type 0} {R : B → Type 0} (parts : B → A) (of : A → B) → ((y : B) → R y → P (parts y)) → ((x : A) → P x → R (of x)) → ((y : B) → of (parts y) ≡ y) → Searches P → Searches R
by_parts {A} {B} {P} {R} parts of down up back s = record { search_for = find }
  where
    find : (Q : B → Type 0) → ((y : B) → Dec (Q y)) → Dec ((y : B) × R y × Q y)
    find Q d = map_dec to from (s.search_for (λ x. Q (of x)) (λ x. d (of x)))
      where
        to : ((x : A) × P x × Q (of x)) → (y : B) × R y × Q y
        to w = (of w.0, up w.0 w.1, w.2)

        from : ((y : B) × R y × Q y) → (x : A) × P x × Q (of x)
        from w = (parts w.0, down w.0 w.1, subst Q (sym (back w.0)) w.2)

-- of pairs
infixl 60 ◌▸◌
pub ◌▸◌ : {A B : Type 0} {P : A → Type 0} {R : B → Type 0} → Searches P → Searches R → Searches (λ (p : A × B). P p.0 × R p.1)
◌▸◌ {A} {B} {P} {R} s t = record { search_for = find }
  where
    find : (Q : A × B → Type 0) → ((p : A × B) → Dec (Q p)) → Dec ((p : A × B) × (P p.0 × R p.1) × Q p)
    find Q d = map_dec to from (s.search_for (λ x. (y : B) × R y × Q (x, y)) (λ x. t.search_for (λ y. Q (x, y)) (λ y. d (x, y))))
      where
        to : ((x : A) × P x × ((y : B) × R y × Q (x, y))) → (p : A × B) × (P p.0 × R p.1) × Q p
        to w = ((w.0, w.2.0), (w.1, w.2.1), w.2.2)

        from : ((p : A × B) × (P p.0 × R p.1) × Q p) → (x : A) × P x × ((y : B) × R y × Q (x, y))
        from w = (w.0.0, w.1.0, (w.0.1, w.1.1, w.2))

-- of options
pub optionally : {A : Type 0} {P : A → Type 0} → Searches P → Searches (λ (o : Option A). IfSome o P)
optionally {A} {P} s = record { search_for = find }
  where
    find : (Q : Option A → Type 0) → ((o : Option A) → Dec (Q o)) → Dec ((o : Option A) × IfSome o P × Q o)
    find Q d = by (d None) (s.search_for (λ x. Q (Some x)) (λ x. d (Some x)))
      where
        cases : (Q None → ⊥) → (((x : A) × P x × Q (Some x)) → ⊥) → (o : Option A) → IfSome o P → Q o → ⊥
        cases h g None f q = h q
        cases h g (Some x) f q = g (x, f, q)

        by : Dec (Q None) → Dec ((x : A) × P x × Q (Some x)) → Dec ((o : Option A) × IfSome o P × Q o)
        by (yes q) rest = yes (None, tt, q)
        by (no h) (yes w) = yes (Some w.0, w.1, w.2)
        by (no h) (no g) = no (λ w. cases h g w.0 w.1 w.2)

-- ---- numbers

find_below : (m : ℕ) (Q : ℕ → Type 0) → ((n : ℕ) → Dec (Q n)) → Dec ((n : ℕ) × (n < m) × Q n)
find_below zero Q d = no (λ w. let h = w.1 in omega arith)
find_below (suc m) Q d = by (d m) (find_below m Q d)
  where
    cases : (Q m → ⊥) → (((n : ℕ) × (n < m) × Q n) → ⊥) → (n : ℕ) → n < suc m → Q n → (n ≡ m) ⊎ (n < m) → ⊥
    cases h g n lt q (inl e) = h (subst Q e q)
    cases h g n lt q (inr l) = g (n, l, q)

    by : Dec (Q m) → Dec ((n : ℕ) × (n < m) × Q n) → Dec ((n : ℕ) × (n < suc m) × Q n)
    by (yes q) rest = yes (m, omega arith, q)
    by (no h) (yes w) = let l = w.1 in yes (w.0, omega arith, w.2)
    by (no h) (no g) = no (λ w. let l = w.1 in cases h g w.0 w.1 w.2 (eq-or-lt_of_le {n = w.0} {m = m} (omega arith)))

pub numbers_below : (m : ℕ) → Searches (λ n. n < m)
numbers_below m = record { search_for = find_below m }

pub numbers_to : (m : ℕ) → Searches (λ n. n ≤ m)
numbers_to m = among (numbers_below (suc m)) (λ n. dec_le n m) (λ n h. omega (arith, h))

-- ---- lists of bounded length

abbrev pub AreUpTo : {A : Type 0} → ℕ → (A → Type 0) → List A → Type 0
AreUpTo n P xs = (length xs ≤ n) × AllByRecursion P xs

find_lists : {A : Type 0} (P : A → Type 0) → Searches P → (n : ℕ) (Q : List A → Type 0) → ((xs : List A) → Dec (Q xs)) → Dec ((xs : List A) × AreUpTo n P xs × Q xs)
find_lists {A} P s zero Q d = by (d [])
  where
    cases : (Q [] → ⊥) → (xs : List A) → AreUpTo 0 P xs → Q xs → ⊥
    cases h [] f q = h q
    cases h (x ∷ xs) f q = let long = f.0 in omega arith

    by : Dec (Q []) → Dec ((xs : List A) × AreUpTo 0 P xs × Q xs)
    by (yes q) = yes ([], (omega arith, tt), q)
    by (no h) = no (λ w. cases h w.0 w.1 w.2)
find_lists {A} P s (suc n) Q d = by (d []) (s.search_for (λ x. (xs : List A) × AreUpTo n P xs × Q (x ∷ xs)) (λ x. find_lists P s n (λ xs. Q (x ∷ xs)) (λ xs. d (x ∷ xs))))
  where
    cases : (Q [] → ⊥) → (((x : A) × P x × ((xs : List A) × AreUpTo n P xs × Q (x ∷ xs))) → ⊥) → (xs : List A) → AreUpTo (suc n) P xs → Q xs → ⊥
    cases h g [] f q = h q
    cases h g (x ∷ xs) f q = g (x, f.1.0, (xs, (omega (arith, f.0), f.1.1), q))

    by : Dec (Q []) → Dec ((x : A) × P x × ((xs : List A) × AreUpTo n P xs × Q (x ∷ xs))) → Dec ((xs : List A) × AreUpTo (suc n) P xs × Q xs)
    by (yes q) rest = yes ([], (omega arith, tt), q)
    by (no h) (yes w) = let few = w.2.1.0 in yes (w.0 ∷ w.2.0, (omega arith, (w.1, w.2.1.1)), w.2.2)
    by (no h) (no g) = no (λ w. cases h g w.0 w.1 w.2)

pub lists_up_to : {A : Type 0} {P : A → Type 0} (n : ℕ) → Searches P → Searches (AreUpTo n P)
lists_up_to {P} n s = record { search_for = find_lists P s n }

-- ---- bytes

abbrev pub AreBelow : ℕ → List ℕ → Type 0
AreBelow m bytes = AllByRecursion (λ b. b < m) bytes

pub bytes_up_to : (m n : ℕ) → Searches (AreUpTo n (λ b. b < m))
bytes_up_to m n = lists_up_to n (numbers_below m)

pub dec_below : (m : ℕ) (bytes : List ℕ) → Dec (AreBelow m bytes)
dec_below m bytes = dec_each (λ b. b < m) (λ b. dec_le (suc b) m) bytes

-- some bound of some bytes, and of those of some blocks
pub bound_of : (bytes : List ℕ) → (m : ℕ) × AreBelow m bytes
bound_of [] = (0, tt)
bound_of (b ∷ bytes) = let rest = bound_of bytes in (suc b + rest.0, (omega arith, each_weaker (λ c. c < rest.0) (λ c. c < suc b + rest.0) (λ c h. omega (arith, h)) bytes rest.1))

pub bound_of_all : (blocks : List (List ℕ)) → (m : ℕ) × AllByRecursion (AreBelow m) blocks
bound_of_all [] = (0, tt)
bound_of_all (block ∷ blocks) =
    let first = bound_of block in
    let rest = bound_of_all blocks in (
      first.0 + rest.0,
      (
        each_weaker (λ c. c < first.0) (λ c. c < first.0 + rest.0) (λ c h. omega (arith, h)) block first.1,
        each_weaker (AreBelow rest.0) (AreBelow (first.0 + rest.0)) (λ bytes h. each_weaker (λ c. c < rest.0) (λ c. c < first.0 + rest.0) (λ c l. omega (arith, l)) bytes h) blocks rest.1,
      ),
    )
