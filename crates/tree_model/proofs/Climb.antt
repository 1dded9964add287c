-- In a sound tree what the test calls inside is inside: going up never takes more steps than there are names.
use Rattle.std.proofs.Common.{◌≡◌, ℕ, zero, suc, ◌≤◌, List, [], ◌∷◌, Some, Bool, true, false, cond, not, ◌&&◌, ◌||◌, refl, sym, ap, ◌∙◌, subst, ◌⊎◌, inl, inr, map, length, filter, arith}
use Rattle.std.specs.List.{list_any, list_all, IsDistinct, AllByRecursion}
use Rattle.std.specs.Cmp.{IsEquivalence, eq_by_cmp_equiv}
use Rattle.std.specs.Ordering.{eq_by_cmp, is_lt, is_eq}
use Rattle.std.specs.declared.cmp.Ordering.{Ordering}
use Rattle.std.specs.declared.cmp.Ordering.TheVariants.{Less, Equal, Greater}
use Rattle.std.specs.FinMap.Entries.{find as value_at, is_sorted, below_all}
use Rattle.std.proofs.lemmas.Map.Made.{length-le_from_is_member}
use Rattle.std.proofs.lemmas.Map.Keys.{IsDistinct-cons}
use Rattle.ivy_base.specs.declared.key.Key.{Key}
use Rattle.tree_model.specs.Tree.{Tree, Place, place_cmp, same_key, inode_at, is_directory, IsInside, itself, named, parents_in, ends_without, is_inside}
use Rattle.tree_model.specs.Sound.{Names, IsSound, InsideIsExact}
use Rattle.tree_model.proofs.Keys.{keys_total, same_key_is, same_key_itself, same_place_is, same_place_itself}
use Rattle.tree_model.proofs.Sound.{both_true, no_name, not_inside}
use Rattle.tree_model.specs.Apply.{empty_tree, apply_all}
use Rattle.tree_model.proofs.Applied.{records_make_sound_trees}

pub data Climb (names : List (Place × Key)) : Key → List Key → Type 0 where
  stop : {x : Key} → Climb names x []
  up : {x : Key} {ks : List Key} (above : Key) (name : List ℕ) → value_at place_cmp (above, name) names ≡ Some x → Climb names above ks → Climb names x (x ∷ ks)

pub either : (a b : Bool) → (a || b) ≡ true → (a ≡ true) ⊎ (b ≡ true)
either true b h = inl refl
either false b h = inr h

-- each directory of a climb is above its start
above_start : {names : List (Place × Key)} {x : Key} {ks : List Key} → Climb names x ks → (y : Key) → list_any (same_key y) ks ≡ true → IsInside names y x
above_start stop y h = cc
above_start {names} {x} (up {ks = ks} above name e c) y h = by (either (same_key y x) (list_any (same_key y) ks) h) (above_start c y)
  where
    by : (same_key y x ≡ true) ⊎ (list_any (same_key y) ks ≡ true) → (list_any (same_key y) ks ≡ true → IsInside names y above) → IsInside names y x
    by (inl same) again = subst (λ (z : Key). IsInside names z x) (sym (same_key_is y x same)) itself
    by (inr more) again = named above name e (again more)

any_mapped : (q : Key) (names : List (Place × Key)) → list_any (λ e. same_key q e.1) names ≡ list_any (same_key q) (map (λ e. e.1) names)
any_mapped q [] = refl
any_mapped q (e ∷ es) = ap (λ b. same_key q e.1 || b) (any_mapped q es)

pub has_some_name : (names : List (Place × Key)) (p : Place) (x : Key) → value_at place_cmp p names ≡ Some x → (b : Bool) → list_any (λ e. same_key x e.1) names ≡ b → b ≡ true
has_some_name names p x found true e = refl
has_some_name names p x found false e = absurd (no_name names p x e found)

each_named : {names : List (Place × Key)} {x : Key} {ks : List Key} → Climb names x ks → (q : Key) → list_any (same_key q) ks ≡ true → list_any (same_key q) (map (λ e. e.1) names) ≡ true
each_named stop q h = cc
each_named {names} {x} (up {ks = ks} above name e c) q h = by (either (same_key q x) (list_any (same_key q) ks) h) (each_named c q)
  where
    by : (same_key q x ≡ true) ⊎ (list_any (same_key q) ks ≡ true) → (list_any (same_key q) ks ≡ true → list_any (same_key q) (map (λ e. e.1) names) ≡ true) → list_any (same_key q) (map (λ e. e.1) names) ≡ true
    by (inl same) again = subst (λ (z : Key). list_any (same_key z) (map (λ e. e.1) names) ≡ true) (sym (same_key_is q x same)) (sym (any_mapped x names) ∙ has_some_name names (above, name) x e _ refl)
    by (inr more) again = again more

or_left : (a b : Bool) → a ≡ true → (a || b) ≡ true
or_left true b h = refl
or_left false b h = cc

pub or_right : (a b : Bool) → b ≡ true → (a || b) ≡ true
or_right true b h = refl
or_right false b h = h

all_from_any : (P : Key → Type 0) (ks : List Key) → ((y : Key) → list_any (same_key y) ks ≡ true → P y) → AllByRecursion P ks
all_from_any P [] h = tt
all_from_any P (k ∷ ks) h = (h k (or_left (same_key k k) _ (same_key_itself k)), all_from_any P ks (λ y g. h y (or_right (same_key y k) _ g)))

not_same : (t : Tree) (s : IsSound t) (x above : Key) (name : List ℕ) → is_directory (inode_at t x) ≡ true → Names t (above, name) x → (y : Key) → IsInside t.names y above → (b : Bool) → same_key x y ≡ b → b ≡ false
not_same t s x above name isd e y i true same = absurd (s.apart (above, name) x isd e (subst (λ (z : Key). IsInside t.names z above) (sym (same_key_is x y same)) i))
not_same t s x above name isd e y i false same = refl

distinct : (t : Tree) (s : IsSound t) {x : Key} {ks : List Key} → is_directory (inode_at t x) ≡ true → Climb t.names x ks → IsDistinct same_key ks
unfolding IsDistinct
distinct t s isd stop = tt
distinct t s {x} isd (up {ks = ks} above name e c) = IsDistinct-cons same_key x ks
    (all_from_any (λ y. same_key x y ≡ false) ks (λ y h. not_same t s x above name isd e y (above_start c y h) _ refl))
    (distinct t s (s.in_directories (above, name) x e) c)

same_keys : IsEquivalence same_key
same_keys = eq_by_cmp_equiv keys_total

mapped_length : (names : List (Place × Key)) → length (map (λ e. e.1) names) ≡ length names
mapped_length [] = refl
mapped_length (e ∷ es) = ap suc (mapped_length es)

short : (t : Tree) (s : IsSound t) (x : Key) (ks : List Key) → is_directory (inode_at t x) ≡ true → Climb t.names x ks → length ks ≤ length t.names
short t s x ks isd c = subst (λ n. length ks ≤ n) (mapped_length t.names) (length-le_from_is_member same_keys ks (map (λ e. e.1) t.names) (distinct t s isd c) (each_named c))

-- ---- a test that fails has a parent at which it fails

pub less_is_not_equal : (r : Ordering) → is_lt r ≡ true → is_eq r ≡ false
less_is_not_equal Less h = refl
less_is_not_equal Equal h = cc
less_is_not_equal Greater h = cc

not_below : (p : Place) (es : List (Place × Key)) (x : Key) → below_all place_cmp p es ≡ true → value_at place_cmp p es ≡ Some x → ⊥
not_below p [] x h g = cc
not_below p (e ∷ es) x h g = by (not_below p es x) (both_true (is_lt (place_cmp p e.0)) (below_all place_cmp p es) h) (eq_by_cmp place_cmp p e.0) refl g
  where
    by : (below_all place_cmp p es ≡ true → value_at place_cmp p es ≡ Some x → ⊥) → (is_lt (place_cmp p e.0) ≡ true) × (below_all place_cmp p es ≡ true) → (b : Bool) → eq_by_cmp place_cmp p e.0 ≡ b → cond b (Some e.1) (value_at place_cmp p es) ≡ Some x → ⊥
    by again h true e g = let n = less_is_not_equal _ h.0 in cc
    by again h false e g = again h.1 g

-- what is found after the first entry is found in the whole
pub found_behind : (e : Place × Key) (es : List (Place × Key)) (p : Place) (x : Key) → below_all place_cmp e.0 es ≡ true → value_at place_cmp p es ≡ Some x → (b : Bool) → eq_by_cmp place_cmp p e.0 ≡ b → cond b (Some e.1) (value_at place_cmp p es) ≡ Some x
found_behind e es p x below found true tied = absurd (not_below e.0 es x below (subst (λ (q : Place). value_at place_cmp q es ≡ Some x) (same_place_is p e.0 tied) found))
found_behind e es p x below found false tied = found

abbrev FailingParent : (Key → Bool) → List (Place × Key) → Key → Type 0
FailingParent f names x = (p : Place) × (value_at place_cmp p names ≡ Some x) × (f p.0 ≡ false)

one_false : (a b : Bool) → (a && b) ≡ false → (a ≡ false) ⊎ (b ≡ false)
one_false true b h = inr h
one_false false b h = inl refl

failing_parent : (f : Key → Bool) (names : List (Place × Key)) (x : Key) → is_sorted place_cmp names ≡ true → list_all f (parents_in names x) ≡ false → FailingParent f names x
failing_parent f [] x sorted h = cc
failing_parent f (e ∷ es) x sorted h =
    let order = both_true (below_all place_cmp e.0 es) (is_sorted place_cmp es) sorted in
    by (λ (g : list_all f (parents_in es x) ≡ false). behind order.0 (failing_parent f es x order.1 g)) (same_key x e.1) refl h
  where
    behind : below_all place_cmp e.0 es ≡ true → FailingParent f es x → FailingParent f (e ∷ es) x
    behind below found = (found.0, found_behind e es found.0 x below found.1 (eq_by_cmp place_cmp found.0 e.0) refl, found.2)

    first : same_key x e.1 ≡ true → f e.0.0 ≡ false → FailingParent f (e ∷ es) x
    first same fails = (e.0, ap (λ b. cond b (Some e.1) (value_at place_cmp e.0 es)) (same_place_itself e.0) ∙ ap Some (sym (same_key_is x e.1 same)), fails)

    split : same_key x e.1 ≡ true → (list_all f (parents_in es x) ≡ false → FailingParent f (e ∷ es) x) → (f e.0.0 ≡ false) ⊎ (list_all f (parents_in es x) ≡ false) → FailingParent f (e ∷ es) x
    split same again (inl fails) = first same fails
    split same again (inr more) = again more

    by : (list_all f (parents_in es x) ≡ false → FailingParent f (e ∷ es) x) → (b : Bool) → same_key x e.1 ≡ b → list_all f (map (λ e. e.0.0) (cond b (e ∷ filter (λ e. same_key x e.1) es) (filter (λ e. same_key x e.1) es))) ≡ false → FailingParent f (e ∷ es) x
    by again true same h = split same again (one_false (f e.0.0) (list_all f (parents_in es x)) h)
    by again false same h = again h

-- inside, or a climb of so many steps
inside_or_climb : (t : Tree) (s : IsSound t) (n : ℕ) (x k : Key) → ends_without n t.names x k ≡ false → IsInside t.names k x ⊎ ((ks : List Key) × Climb t.names x ks × (length ks ≡ n))
inside_or_climb t s zero x k h = inr ([], stop, refl)
inside_or_climb t s (suc n) x k h = by (same_key x k) refl (one_false (not (same_key x k)) (list_all (λ above. ends_without n t.names above k) (parents_in t.names x)) h) (λ (y : Key) (g : ends_without n t.names y k ≡ false). inside_or_climb t s n y k g)
  where
    here : same_key x k ≡ true → IsInside t.names k x
    here same = subst (λ (z : Key). IsInside t.names k z) (sym (same_key_is x k same)) itself

    onto : (p : Place) → value_at place_cmp p t.names ≡ Some x → IsInside t.names k p.0 ⊎ ((ks : List Key) × Climb t.names p.0 ks × (length ks ≡ n)) → IsInside t.names k x ⊎ ((ks : List Key) × Climb t.names x ks × (length ks ≡ suc n))
    onto p e (inl i) = inl (named p.0 p.1 e i)
    onto p e (inr c) = inr (x ∷ c.0, up p.0 p.1 e c.1, ap suc c.2)

    above : FailingParent (λ y. ends_without n t.names y k) t.names x → ((y : Key) → ends_without n t.names y k ≡ false → IsInside t.names k y ⊎ ((ks : List Key) × Climb t.names y ks × (length ks ≡ n))) → IsInside t.names k x ⊎ ((ks : List Key) × Climb t.names x ks × (length ks ≡ suc n))
    above p again = onto p.0 p.1 (again p.0.0 p.2)

    turned : (b : Bool) → not b ≡ false → b ≡ true
    turned true h = refl
    turned false h = cc

    by : (b : Bool) → same_key x k ≡ b → (not (same_key x k) ≡ false) ⊎ (list_all (λ above. ends_without n t.names above k) (parents_in t.names x) ≡ false) → ((y : Key) → ends_without n t.names y k ≡ false → IsInside t.names k y ⊎ ((ks : List Key) × Climb t.names y ks × (length ks ≡ n))) → IsInside t.names k x ⊎ ((ks : List Key) × Climb t.names x ks × (length ks ≡ suc n))
    by b same (inl g) again = inl (here (turned (same_key x k) g))
    by b same (inr g) again = above (failing_parent (λ y. ends_without n t.names y k) t.names x s.order.names g) again

turned_over : (b : Bool) → not b ≡ true → b ≡ false
turned_over true h = cc
turned_over false h = refl

pub inside_by_test : (t : Tree) → IsSound t → (x k : Key) → is_directory (inode_at t x) ≡ true → is_inside t x k ≡ true → IsInside t.names k x
inside_by_test t s x k isd h = by (inside_or_climb t s (suc (length t.names)) x k (turned_over _ h))
  where
    by : IsInside t.names k x ⊎ ((ks : List Key) × Climb t.names x ks × (length ks ≡ suc (length t.names))) → IsInside t.names k x
    by (inl i) = i
    by (inr c) = let few = short t s x c.0 isd c.1 in let many = c.2 in absurd (omega arith)

pub test_of_inside : (t : Tree) (x k : Key) → IsInside t.names k x → (b : Bool) → is_inside t x k ≡ b → b ≡ true
test_of_inside t x k i true e = refl
test_of_inside t x k i false e = absurd (not_inside t x k e i)

pub inside_is_exact : InsideIsExact
inside_is_exact ops x k isd =
    let t = apply_all empty_tree ops in
    (λ h. inside_by_test t (records_make_sound_trees ops) x k isd h, λ i. test_of_inside t x k i _ refl)
