-- Whether an inode lies inside a directory: by its name or by one of its names.
use Rattle.std.proofs.Common.{◌≡◌, ℕ, List, [], ◌∷◌, ◌++◌, Some, Bool, true, false, cond, ◌&&◌, ◌||◌, ◌↔◌, refl, sym, ap, ◌∙◌, subst, ◌⊎◌, inl, inr}
use Rattle.std.specs.Prelude.{IsTrue}
use Rattle.std.specs.List.{list_any}
use Rattle.std.specs.Ordering.{eq_by_cmp}
use Rattle.std.specs.FinMap.Entries.{find as value_at, is_sorted, below_all}
use Rattle.std.proofs.lemmas.List.{append_assoc}
use Rattle.std.proofs.lemmas.List.Folds.{list_any-append}
use Rattle.ivy_base.specs.declared.key.Key.{Key}
use Rattle.tree_model.specs.Tree.{Tree, Place, place_cmp, same_key, inode_at, is_directory, is_inside, IsInside, itself, named}
use Rattle.tree_model.specs.Sound.{Names, IsSound}
use Rattle.tree_model.proofs.Climb.{either, or_right, found_behind, inside_by_test, test_of_inside}
use Rattle.tree_model.proofs.Keys.{same_key_is, same_key_itself, same_place_is, same_place_itself}
use Rattle.tree_model.proofs.Sound.{both_true}
use Rattle.dir_replay.specs.declared.nodes.Node.{Node}
use Rattle.dir_replay.specs.Inside.{stands_inside, has_name_inside}
use Rattle.dir_replay.specs.View.{names_in, all_names, tree_of}

-- ---- a name that passes a test

name_with_in : (f : Place × Key → Bool) (names : List (Place × Key)) → is_sorted place_cmp names ≡ true → list_any f names ≡ true
    → (p : Place) × (x : Key) × (value_at place_cmp p names ≡ Some x) × (f (p, x) ≡ true)
name_with_in f [] sorted h = cc
name_with_in f (e ∷ es) sorted h =
    let order = both_true (below_all place_cmp e.0 es) (is_sorted place_cmp es) sorted in
    by (λ (g : list_any f es ≡ true). behind order.0 (name_with_in f es order.1 g)) (either (f e) (list_any f es) h)
  where
    behind : below_all place_cmp e.0 es ≡ true → (p : Place) × (x : Key) × (value_at place_cmp p es ≡ Some x) × (f (p, x) ≡ true)
        → (p : Place) × (x : Key) × (value_at place_cmp p (e ∷ es) ≡ Some x) × (f (p, x) ≡ true)
    behind below found = (found.0, found.1, found_behind e es found.0 found.1 below found.2 (eq_by_cmp place_cmp found.0 e.0) refl, found.3)

    by : (list_any f es ≡ true → (p : Place) × (x : Key) × (value_at place_cmp p (e ∷ es) ≡ Some x) × (f (p, x) ≡ true)) → (f e ≡ true) ⊎ (list_any f es ≡ true)
        → (p : Place) × (x : Key) × (value_at place_cmp p (e ∷ es) ≡ Some x) × (f (p, x) ≡ true)
    by again (inl here) = (e.0, e.1, ap (λ b. cond b (Some e.1) (value_at place_cmp e.0 es)) (same_place_itself e.0), here)
    by again (inr more) = again more

-- where a name passes it, one that is found does
name_with : (t : Tree) → IsSound t → (f : Place × Key → Bool) → list_any f t.names ≡ true → (p : Place) × (x : Key) × Names t p x × (f (p, x) ≡ true)
name_with t s f h = name_with_in f t.names s.order.names h

-- and the other way round
found_any : (f : Place × Key → Bool) (names : List (Place × Key)) (p : Place) (x : Key) → value_at place_cmp p names ≡ Some x → f (p, x) ≡ true → list_any f names ≡ true
found_any f [] p x found h = cc
found_any f (e ∷ es) p x found h = by (eq_by_cmp place_cmp p e.0) refl found (found_any f es p x)
  where
    here : p ≡ e.0 → e.1 ≡ x → f e ≡ true
    here place inode = subst (λ (q : Place). f (q, e.1) ≡ true) place (subst (λ (y : Key). f (p, y) ≡ true) (sym inode) h)

    by : (b : Bool) → eq_by_cmp place_cmp p e.0 ≡ b → cond b (Some e.1) (value_at place_cmp p es) ≡ Some x → (value_at place_cmp p es ≡ Some x → f (p, x) ≡ true → list_any f es ≡ true) → (f e || list_any f es) ≡ true
    by true same found again = let inode : e.1 ≡ x = cc in ap (λ b. b || list_any f es) (here (same_place_is p e.0 same) inode)
    by false other found again = or_right (f e) _ (again found h)

-- ---- the names of all directories

both_or : (a b i : Bool) → ((a && i) || (b && i)) ≡ ((a || b) && i)
both_or true true true = refl
both_or true true false = refl
both_or true false true = refl
both_or true false false = refl
both_or false b i = refl

any_inside : (t : Tree) (x k above : Key) (entries : List (List ℕ × Key)) → list_any (stands_inside t x k) (names_in above entries) ≡ (list_any (λ e. same_key x e.1) entries && is_inside t above k)
any_inside t x k above [] = refl
any_inside t x k above (e ∷ es) =
    ap (λ b. (same_key x e.1 && is_inside t above k) || b) (any_inside t x k above es) ∙ both_or (same_key x e.1) (list_any (λ e. same_key x e.1) es) (is_inside t above k)

-- with the names of the first directory apart
pub any_first : (t : Tree) (x k above : Key) (n : Node) (rest : List (Key × Node))
    → list_any (stands_inside t x k) (all_names ((above, n) ∷ rest)) ≡ ((list_any (λ e. same_key x e.1) n.entries && is_inside t above k) || list_any (stands_inside t x k) (all_names rest))
any_first t x k above n rest =
    list_any-append (stands_inside t x k) (names_in above n.entries) (all_names rest)
    ∙ ap (λ b. b || list_any (stands_inside t x k) (all_names rest)) (any_inside t x k above n.entries)

-- where one stands all along
pub record IsRest (t : Tree) (left : List (Key × Node)) : Type 0 where
  pub before : List (Place × Key)
  pub whole : before ++ all_names left ≡ t.names

pub all_left : (t : Tree) (left nodes : List (Key × Node)) → left ≡ nodes → all_names nodes ≡ t.names → IsRest t left
all_left t left nodes same is = record { before = []; whole = ap all_names same ∙ is }

pub less_left : (t : Tree) (left rest : List (Key × Node)) (above : Key) (n : Node) → IsRest t left → left ≡ (above, n) ∷ rest → IsRest t rest
less_left t left rest above n r same = record {
  before = r.before ++ names_in above n.entries;
  whole = append_assoc r.before (names_in above n.entries) (all_names rest) ∙ ap (λ (es : List (Key × Node)). r.before ++ all_names es) (sym same) ∙ r.whole;
}

some_in : (x above : Key) (entries : List (List ℕ × Key)) → list_any (λ e. same_key x e.1) entries ≡ true → list_any (λ e. same_key above e.0.0) (names_in above entries) ≡ true
some_in x above [] h = cc
some_in x above (e ∷ es) h = ap (λ b. b || list_any (λ e. same_key above e.0.0) (names_in above es)) (same_key_itself above)

or_left : (a b : Bool) → a ≡ true → (a || b) ≡ true
or_left true b h = refl
or_left false b h = cc

-- what has a name in it is a directory
pub has_names : (t : Tree) → IsSound t → (x above : Key) (n : Node) (left rest : List (Key × Node)) → IsRest t left → left ≡ (above, n) ∷ rest
    → list_any (λ e. same_key x e.1) n.entries ≡ true → is_directory (inode_at t above) ≡ true
has_names t s x above n left rest r same h =
    let in_it : Place × Key → Bool = λ e. same_key above e.0.0 in
    let here : list_any in_it (all_names ((above, n) ∷ rest)) ≡ true = list_any-append in_it (names_in above n.entries) (all_names rest) ∙ or_left _ _ (some_in x above n.entries h) in
    let later : list_any in_it (all_names left) ≡ true = ap (λ (es : List (Key × Node)). list_any in_it (all_names es)) same ∙ here in
    let all : list_any in_it t.names ≡ true = ap (λ (es : List (Place × Key)). list_any in_it es) (sym r.whole) ∙ list_any-append in_it r.before (all_names left) ∙ or_right (list_any in_it r.before) _ later in
    let found = name_with t s in_it all in
    subst (λ (y : Key). is_directory (inode_at t y) ≡ true) (sym (same_key_is above found.0.0 found.3)) (s.in_directories found.0 found.1 found.2)

-- ---- what is inside

-- of a directory the test says what the relation says
pub tested_inside : (t : Tree) → IsSound t → (x k : Key) (b : Bool) → is_directory (inode_at t x) ≡ true → b ≡ is_inside t x k → IsTrue b ↔ IsInside t.names k x
tested_inside t s x k b isd is = (λ h. inside_by_test t s x k isd (sym is ∙ h), λ i. is ∙ test_of_inside t x k i _ refl)

down : (t : Tree) (x k : Key) → IsInside t.names k x → (same_key x k || list_any (stands_inside t x k) t.names) ≡ true
down t _ k itself = ap (λ b. b || list_any (stands_inside t k k) t.names) (same_key_itself k)
down t x k (named above name e g) =
    let both : stands_inside t x k ((above, name), x) ≡ true = ap (λ b. b && is_inside t above k) (same_key_itself x) ∙ test_of_inside t above k g _ refl in
    or_right (same_key x k) _ (found_any (stands_inside t x k) t.names (above, name) x e both)

-- of anything it is the directory, or has a name that stands inside
pub named_inside : (t : Tree) → IsSound t → (x k : Key) (b : Bool) → b ≡ (same_key x k || list_any (stands_inside t x k) t.names) → IsTrue b ↔ IsInside t.names k x
named_inside t s x k b is = (λ h. up (either (same_key x k) _ (sym is ∙ h)), λ i. is ∙ down t x k i)
  where
    up : (same_key x k ≡ true) ⊎ (list_any (stands_inside t x k) t.names ≡ true) → IsInside t.names k x
    up (inl same) = subst (λ (y : Key). IsInside t.names k y) (sym (same_key_is x k same)) itself
    up (inr some) =
        let found = name_with t s (stands_inside t x k) some in
        let both = both_true (same_key x found.1) (is_inside t found.0.0 k) found.3 in
        let name : value_at place_cmp found.0 t.names ≡ Some x = found.2 ∙ ap Some (sym (same_key_is x found.1 both.0)) in
        named found.0.0 found.0.1 name (inside_by_test t s found.0.0 k (s.in_directories found.0 x name) both.1)

-- ---- going through the directories

same_and : (a d i : Bool) → (a ≡ true → d ≡ true) → (a && (d && i)) ≡ (a && i)
same_and true d i h = ap (λ b. b && i) (h refl)
same_and false d i h = refl

any_of_rest : (t : Tree) → IsSound t → (x k : Key) (left : List (Key × Node)) → IsRest t left → list_any (has_name_inside t x k) left ≡ list_any (stands_inside t x k) (all_names left)
any_of_rest t s x k [] r = refl
any_of_rest t s x k (e ∷ es) r =
    (λ i. same_and (list_any (λ n. same_key x n.1) e.1.entries) (is_directory (inode_at t e.0)) (is_inside t e.0 k) (has_names t s x e.0 e.1 (e ∷ es) es r refl) i || any_of_rest t s x k es (less_left t (e ∷ es) es e.0 e.1 r refl) i)
    ∙ sym (any_first t x k e.0 e.1 es)

-- where an inode has a name inside, a name stands inside
pub any_of_all : (t : Tree) → IsSound t → (x k : Key) (nodes : List (Key × Node)) → tree_of nodes ≡ t → (b : Bool) → b ≡ list_any (has_name_inside t x k) nodes → b ≡ list_any (stands_inside t x k) t.names
any_of_all t s x k nodes seen b is =
    is
    ∙ any_of_rest t s x k nodes (all_left t nodes nodes refl (ap (λ (u : Tree). u.names) seen))
    ∙ ap (λ (u : Tree). list_any (stands_inside t x k) u.names) seen
