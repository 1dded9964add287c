-- Going up from a directory to the one that names it: it stays inside what it lies inside, and comes to an end.
use Rattle.std.proofs.Common.{◌≡◌, ℕ, ◌<◌, ◌≤◌, List, [], ◌∷◌, Option, Some, None, Bool, true, false, cond, not, ◌||◌, is_some, refl, sym, ap, ◌∙◌, subst, ◌⊎◌, inl, inr, filter, length, arith}
use Rattle.std.specs.List.{list_any}
use Rattle.std.specs.Ordering.{eq_by_cmp}
use Rattle.std.specs.FinMap.Entries.{find as value_at, is_sorted, below_all}
use Rattle.ivy_base.specs.declared.key.Key.{Key}
use Rattle.ivy_base.specs.Naming.{key_cmp}
use Rattle.tree_model.specs.Tree.{Tree, Inode, Place, place_cmp, same_key, inode_at, is_directory, has_name, is_empty_directory, is_inside, IsInside, itself, named}
use Rattle.tree_model.specs.Sound.{Names, IsSound}
use Rattle.tree_model.proofs.Keys.{same_key_is, same_key_itself, same_place_is, same_place_itself}
use Rattle.tree_model.proofs.Sound.{both_true, no_name}
use Rattle.tree_model.proofs.Climb.{either, or_right, found_behind, has_some_name, inside_by_test, test_of_inside}

pub same_truth : (a b : Bool) → (a ≡ true → b ≡ true) → (b ≡ true → a ≡ true) → a ≡ b
same_truth true b f g = sym (f refl)
same_truth false true f g = g refl
same_truth false false f g = refl

-- ---- has a name

pub has_name_by : (t : Tree) (p : Place) (x : Key) → Names t p x → has_name t x ≡ true
has_name_by t p x e = has_some_name t.names p x e (has_name t x) refl

some_name_in : (names : List (Place × Key)) (x : Key) → is_sorted place_cmp names ≡ true → list_any (λ e. same_key x e.1) names ≡ true → (p : Place) × (value_at place_cmp p names ≡ Some x)
some_name_in [] x sorted h = cc
some_name_in (e ∷ es) x sorted h =
    let order = both_true (below_all place_cmp e.0 es) (is_sorted place_cmp es) sorted in
    by (λ (g : list_any (λ e. same_key x e.1) es ≡ true). behind order.0 (some_name_in es x order.1 g)) (either (same_key x e.1) (list_any (λ e. same_key x e.1) es) h)
  where
    behind : below_all place_cmp e.0 es ≡ true → (p : Place) × (value_at place_cmp p es ≡ Some x) → (p : Place) × (value_at place_cmp p (e ∷ es) ≡ Some x)
    behind below found = (found.0, found_behind e es found.0 x below found.1 (eq_by_cmp place_cmp found.0 e.0) refl)

    by : (list_any (λ e. same_key x e.1) es ≡ true → (p : Place) × (value_at place_cmp p (e ∷ es) ≡ Some x)) → (same_key x e.1 ≡ true) ⊎ (list_any (λ e. same_key x e.1) es ≡ true) → (p : Place) × (value_at place_cmp p (e ∷ es) ≡ Some x)
    by again (inl same) = (e.0, ap (λ b. cond b (Some e.1) (value_at place_cmp e.0 es)) (same_place_itself e.0) ∙ ap Some (sym (same_key_is x e.1 same)))
    by again (inr more) = again more

pub some_name : (t : Tree) → IsSound t → (x : Key) → has_name t x ≡ true → (p : Place) × Names t p x
some_name t s x h = some_name_in t.names x s.order.names h

-- what isn't there has no name
pub unnamed_missing : (t : Tree) → IsSound t → (x : Key) → inode_at t x ≡ None → has_name t x ≡ false
unnamed_missing t s x missing = by (has_name t x) refl
  where
    by : (b : Bool) → has_name t x ≡ b → b ≡ false
    by true h = let found = some_name t s x h in let there : is_some (inode_at t x) ≡ true = s.there found.0 x found.1 in let none : is_some (inode_at t x) ≡ false = ap is_some missing in cc
    by false h = refl

-- ---- one step up

above_only : (t : Tree) → IsSound t → (x k : Key) (p : Place) → is_directory (inode_at t x) ≡ true → Names t p x → same_key x k ≡ false → IsInside t.names k x → IsInside t.names k p.0
above_only t s _ k p isd e other itself = let h = same_key_itself k in cc
above_only t s x k p isd e other (named above name f g) = subst (λ (q : Place). IsInside t.names k q.0) (s.once (above, name) p x isd f e) g

pub inside_above : (t : Tree) → IsSound t → (x k : Key) (p : Place) → is_directory (inode_at t x) ≡ true → Names t p x → same_key x k ≡ false → is_inside t x k ≡ is_inside t p.0 k
inside_above t s x k p isd e other = same_truth _ _
    (λ h. test_of_inside t p.0 k (above_only t s x k p isd e other (inside_by_test t s x k isd h)) _ refl)
    (λ h. test_of_inside t x k (named p.0 p.1 e (inside_by_test t s p.0 k (s.in_directories p x e) h)) _ refl)

pub inside_itself : (t : Tree) (x k : Key) → same_key x k ≡ true → is_inside t x k ≡ true
inside_itself t x k same = test_of_inside t x k (subst (λ (y : Key). IsInside t.names k y) (sym (same_key_is x k same)) itself) _ refl

nowhere : (t : Tree) (x k : Key) → has_name t x ≡ false → same_key x k ≡ false → IsInside t.names k x → ⊥
nowhere t _ k unnamed other itself = let h = same_key_itself k in cc
nowhere t x k unnamed other (named above name e g) = no_name t.names (above, name) x unnamed e

-- at the top
pub inside_nothing : (t : Tree) → IsSound t → (x k : Key) → is_directory (inode_at t x) ≡ true → has_name t x ≡ false → same_key x k ≡ false → is_inside t x k ≡ false
inside_nothing t s x k isd unnamed other = same_truth _ _ (λ h. absurd (nowhere t x k unnamed other (inside_by_test t s x k isd h))) (λ h. cc)

-- ---- the way up ends

-- how many inodes a directory is or lies inside
abbrev pub height : Tree → Key → ℕ
height t x = length (filter (λ e. is_inside t x e.0) t.inodes)

no_more : (f g : Key → Bool) (es : List (Key × Inode)) → ((k : Key) → f k ≡ true → g k ≡ true) → length (filter (λ e. f e.0) es) ≤ length (filter (λ e. g e.0) es)
no_more f g [] sub = omega arith
no_more f g (e ∷ es) sub = by (f e.0) (g e.0) (sub e.0) (no_more f g es sub)
  where
    by : (a b : Bool) → (a ≡ true → b ≡ true) → length (filter (λ e. f e.0) es) ≤ length (filter (λ e. g e.0) es) → length (cond a (e ∷ filter (λ e. f e.0) es) (filter (λ e. f e.0) es)) ≤ length (cond b (e ∷ filter (λ e. g e.0) es) (filter (λ e. g e.0) es))
    by true true h less = omega arith
    by true false h less = let no = h refl in cc
    by false true h less = omega arith
    by false false h less = less

fewer : (f g : Key → Bool) (es : List (Key × Inode)) (x : Key) (i : Inode) → ((k : Key) → f k ≡ true → g k ≡ true) → f x ≡ false → g x ≡ true → value_at key_cmp x es ≡ Some i → length (filter (λ e. f e.0) es) < length (filter (λ e. g e.0) es)
fewer f g [] x i sub lacks has there = cc
fewer f g (e ∷ es) x i sub lacks has there = by (same_key x e.0) refl (f e.0) (g e.0) refl refl there (fewer f g es x i sub lacks has)
  where
    here : same_key x e.0 ≡ true → (a b : Bool) → f e.0 ≡ a → g e.0 ≡ b → length (cond a (e ∷ filter (λ e. f e.0) es) (filter (λ e. f e.0) es)) < length (cond b (e ∷ filter (λ e. g e.0) es) (filter (λ e. g e.0) es))
    here same true b fa gb = let at : f x ≡ true = subst (λ (k : Key). f k ≡ true) (sym (same_key_is x e.0 same)) fa in absurd cc
    here same false true fa gb = let less = no_more f g es sub in omega arith
    here same false false fa gb = let at : g x ≡ false = subst (λ (k : Key). g k ≡ false) (sym (same_key_is x e.0 same)) gb in absurd cc

    behind : (a b : Bool) → f e.0 ≡ a → g e.0 ≡ b → length (filter (λ e. f e.0) es) < length (filter (λ e. g e.0) es) → length (cond a (e ∷ filter (λ e. f e.0) es) (filter (λ e. f e.0) es)) < length (cond b (e ∷ filter (λ e. g e.0) es) (filter (λ e. g e.0) es))
    behind true true fa gb less = omega arith
    behind true false fa gb less = let at = sub e.0 fa in absurd cc
    behind false true fa gb less = omega arith
    behind false false fa gb less = less

    by : (same : Bool) → same_key x e.0 ≡ same → (a b : Bool) → f e.0 ≡ a → g e.0 ≡ b → cond same (Some e.1) (value_at key_cmp x es) ≡ Some i → (value_at key_cmp x es ≡ Some i → length (filter (λ e. f e.0) es) < length (filter (λ e. g e.0) es)) → length (cond a (e ∷ filter (λ e. f e.0) es) (filter (λ e. f e.0) es)) < length (cond b (e ∷ filter (λ e. g e.0) es) (filter (λ e. g e.0) es))
    by true is a b fa gb found again = here is a b fa gb
    by false is a b fa gb found again = behind a b fa gb (again found)

inode_of : (o : Option Inode) → is_directory o ≡ true → (i : Inode) × (o ≡ Some i)
inode_of None h = cc
inode_of (Some i) h = (i, refl)

pub height_above : (t : Tree) → IsSound t → (x : Key) (p : Place) → is_directory (inode_at t x) ≡ true → Names t p x → height t p.0 < height t x
height_above t s x p isd e =
    let found = inode_of (inode_at t x) isd in
    fewer (is_inside t p.0) (is_inside t x) t.inodes x found.0
    (λ k h. test_of_inside t x k (named p.0 p.1 e (inside_by_test t s p.0 k (s.in_directories p x e) h)) _ refl)
    (by (is_inside t p.0 x) refl)
    (inside_itself t x x (same_key_itself x))
    found.1
  where
    by : (b : Bool) → is_inside t p.0 x ≡ b → b ≡ false
    by true h = absurd (s.apart p x isd e (inside_by_test t s p.0 x (s.in_directories p x e) h))
    by false h = refl

-- ---- a directory without entries

-- what is found in a directory is an entry of it
entry_there : (names : List (Place × Key)) (k : Key) (name : List ℕ) (x : Key) → value_at place_cmp (k, name) names ≡ Some x → list_any (λ e. same_key k e.0.0) names ≡ true
entry_there [] k name x found = cc
entry_there (e ∷ es) k name x found = by (eq_by_cmp place_cmp (k, name) e.0) refl found (entry_there es k name x)
  where
    by : (b : Bool) → eq_by_cmp place_cmp (k, name) e.0 ≡ b → cond b (Some e.1) (value_at place_cmp (k, name) es) ≡ Some x → (value_at place_cmp (k, name) es ≡ Some x → list_any (λ e. same_key k e.0.0) es ≡ true) → (same_key k e.0.0 || list_any (λ e. same_key k e.0.0) es) ≡ true
    by true same found again = ap (λ b. b || list_any (λ e. same_key k e.0.0) es) (subst (λ (p : Place). same_key k p.0 ≡ true) (same_place_is (k, name) e.0 same) (same_key_itself k))
    by false other found again = or_right (same_key k e.0.0) _ (again found)

only_itself : (t : Tree) (k x : Key) → is_empty_directory t k ≡ true → IsInside t.names k x → same_key x k ≡ true
only_itself t k _ empty itself = same_key_itself k
only_itself t k x empty (named above name e h) =
    let up = same_key_is above k (only_itself t k above empty h) in
    let some : list_any (λ f. same_key k f.0.0) t.names ≡ true = entry_there t.names k name x (subst (λ (y : Key). value_at place_cmp (y, name) t.names ≡ Some x) up e) in
    let none : not (list_any (λ f. same_key k f.0.0) t.names) ≡ true = empty in
    let never : not (list_any (λ f. same_key k f.0.0) t.names) ≡ false = ap not some in absurd cc

pub inside_empty : (t : Tree) → IsSound t → (x k : Key) → is_directory (inode_at t x) ≡ true → is_empty_directory t k ≡ true → is_inside t x k ≡ same_key x k
inside_empty t s x k isd empty = same_truth _ _ (λ h. only_itself t k x empty (inside_by_test t s x k isd h)) (λ e. inside_itself t x k e)
