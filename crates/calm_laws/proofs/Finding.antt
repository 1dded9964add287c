-- What is found in lists that grow, and among sessions.
use Rattle.std.proofs.Common.{◌≡◌, ◌⊎◌, inl, inr, Bool, true, false, cond, ℕ, List, [], ◌∷◌, ◌++◌, filter, find, Some, None, ap, subst, is_some, option_map}
use Rattle.std.specs.List.{AllByRecursion}
use Rattle.std.specs.Str.{bytes_eq}
use Rattle.log_model.proofs.Lists.{each, each_from, from_filter}
use Rattle.session_model.specs.Sessions.{Session}
use Rattle.world_model.specs.World.{NamedSession}

pub found_last : {A : Type 0} (test : A → Bool) (xs : List A) (x : A) → is_some (find test xs) ≡ false → test x ≡ true → find test (xs ++ x ∷ []) ≡ Some x
found_last test [] x none t = ap (λ b. cond b (Some x) None) t
found_last test (y ∷ xs) x none t = by (test y) none (λ h. found_last test xs x h t)
  where
    by : (b : Bool) → is_some (cond b (Some y) (find test xs)) ≡ false → (is_some (find test xs) ≡ false → find test (xs ++ x ∷ []) ≡ Some x) → cond b (Some y) (find test (xs ++ x ∷ [])) ≡ Some x
    by true h later = absurd cc
    by false h later = later h

pub old_or_last : {A : Type 0} (test : A → Bool) (xs : List A) (x y : A) → find test (xs ++ x ∷ []) ≡ Some y → (find test xs ≡ Some y) ⊎ (x ≡ y)
old_or_last test [] x y is = by (test x) is
  where
    by : (b : Bool) → cond b (Some x) None ≡ Some y → (find test [] ≡ Some y) ⊎ (x ≡ y)
    by true h = inr (cc h)
    by false h = cc h
old_or_last test (z ∷ xs) x y is = by (test z) is (old_or_last test xs x y)
  where
    by : (b : Bool) → cond b (Some z) (find test (xs ++ x ∷ [])) ≡ Some y → (find test (xs ++ x ∷ []) ≡ Some y → (find test xs ≡ Some y) ⊎ (x ≡ y)) → (cond b (Some z) (find test xs) ≡ Some y) ⊎ (x ≡ y)
    by true h later = inl h
    by false h later = later h

pub each_filtered : {X : Type 0} (P : X → Type 0) (test : X → Bool) (xs : List X) → AllByRecursion P xs → AllByRecursion P (filter test xs)
each_filtered P test xs h = each_from P (filter test xs) (λ x among. each P xs x h (from_filter test xs x among).0)

-- what holds of each session holds of the one of that name
pub session_in : (P : Session → Type 0) (ss : List NamedSession) (n : List ℕ) (s : Session) → option_map (λ (t : NamedSession). t.session) (find (λ (t : NamedSession). bytes_eq t.name n) ss) ≡ Some s → AllByRecursion (λ t. P t.session) ss → P s
session_in P [] n s is h = cc is
session_in P (t ∷ ss) n s is h = by (bytes_eq t.name n) is (λ e. session_in P ss n s e h.1)
  where
    by : (b : Bool) → option_map (λ (x : NamedSession). x.session) (cond b (Some t) (find (λ (x : NamedSession). bytes_eq x.name n) ss)) ≡ Some s → (option_map (λ (x : NamedSession). x.session) (find (λ (x : NamedSession). bytes_eq x.name n) ss) ≡ Some s → P s) → P s
    by true e later = let same : t.session ≡ s = cc e in subst P same h.0
    by false e later = later e
