-- What a change of one inode in the list of all leaves as it was.
use Rattle.std.proofs.Common.{◌≡◌, ℕ, List, [], ◌∷◌, ◌++◌, Option, Some, None, Bool, true, false, cond, not, option_map, T, refl, sym, ap, ◌∙◌, subst}
use Rattle.std.specs.Ordering.{is_eq, eq_by_cmp, ordering_then}
use Rattle.std.specs.declared.cmp.Ordering.{Ordering}
use Rattle.std.specs.declared.cmp.Ordering.TheVariants.{Less, Equal, Greater}
use Rattle.std.specs.Cmp.{tied_itself}
use Rattle.std.specs.FinMap.Entries.{find as value_at, find-put, put, where_key, by_order, below_all, is_sorted, is_sorted-put}
use Rattle.std.proofs.lemmas.List.Elements.{filter-append}
use Rattle.ivy_base.specs.declared.key.Key.{Key}
use Rattle.ivy_base.specs.Naming.{key_cmp}
use Rattle.tree_model.specs.Tree.{Place, place_cmp, same_key}
use Rattle.tree_model.proofs.Keys.{keys_total, exact_keys, same_key_is}
use Rattle.tree_model.proofs.Sound.{both_true, from_test, to_test}
use Rattle.dir_replay.specs.declared.nodes.Node.{Node}
use Rattle.dir_replay.specs.Bare.{bare_inode}
use Rattle.dir_replay.specs.Entries.{name_cmp}
use Rattle.dir_replay.specs.Nodes.{changed_node, at_node, entered, left, moved_to}
use Rattle.dir_replay.specs.View.{names_in, all_names, all_inodes}
use Rattle.dir_replay.proofs.Sorted.{sorted-all_inodes, put_same, find_below, found_later}
use Rattle.dir_replay.proofs.Views.{inode_at-tree_of, other_then}
use Rattle.dir_replay.proofs.Puts.{all_inodes-put, all_names-put_name, all_names-put_same}
use Rattle.dir_replay.proofs.Counts.{tied_turned}

-- ---- where there is such an inode

sorted_changed : (k : Key) (f : Node → Node) (nodes : List (Key × Node)) (o : Option Node) → is_sorted key_cmp nodes ≡ true → is_sorted key_cmp (changed_node nodes k o f) ≡ true
sorted_changed k f nodes None sorted = sorted
sorted_changed k f nodes (Some n) sorted = to_test _ (is_sorted-put key_cmp keys_total k (f n) nodes (from_test _ sorted))

pub sorted-at_node : (k : Key) (f : Node → Node) (nodes : List (Key × Node)) → is_sorted key_cmp nodes ≡ true → is_sorted key_cmp (at_node nodes k f) ≡ true
sorted-at_node k f nodes sorted = sorted_changed k f nodes (value_at key_cmp k nodes) sorted

pub find-at_node : (q k : Key) (f : Node → Node) (nodes : List (Key × Node)) → value_at key_cmp q (at_node nodes k f) ≡ cond (same_key q k) (option_map f (value_at key_cmp k nodes)) (value_at key_cmp q nodes)
find-at_node q k f nodes = by (value_at key_cmp k nodes) refl
  where
    gone : (b : Bool) → same_key q k ≡ b → value_at key_cmp k nodes ≡ None → value_at key_cmp q nodes ≡ cond b None (value_at key_cmp q nodes)
    gone true same none = ap (λ (p : Key). value_at key_cmp p nodes) (same_key_is q k same) ∙ none
    gone false other none = refl

    by : (o : Option Node) → value_at key_cmp k nodes ≡ o → value_at key_cmp q (changed_node nodes k o f) ≡ cond (same_key q k) (option_map f o) (value_at key_cmp q nodes)
    by None is = gone (same_key q k) refl is
    by (Some n) is = find-put key_cmp keys_total q k (f n) nodes

kinds_changed : (k : Key) (f : Node → Node) → ((n : Node) → (f n).kind ≡ n.kind) → (nodes : List (Key × Node)) → is_sorted key_cmp nodes ≡ true → (o : Option Node) → value_at key_cmp k nodes ≡ o → all_inodes (changed_node nodes k o f) ≡ all_inodes nodes
kinds_changed k f kept nodes sorted None is = refl
kinds_changed k f kept nodes sorted (Some n) is =
    all_inodes-put k (f n) nodes
    ∙ ap (λ kind. put key_cmp k (bare_inode kind) (all_inodes nodes)) (kept n)
    ∙ put_same key_cmp keys_total k (bare_inode n.kind) (all_inodes nodes) (sorted-all_inodes nodes ∙ sorted) (inode_at-tree_of nodes k ∙ ap (option_map (λ m. bare_inode m.kind)) is)

pub kinds-at_node : (k : Key) (f : Node → Node) → ((n : Node) → (f n).kind ≡ n.kind) → (nodes : List (Key × Node)) → is_sorted key_cmp nodes ≡ true → all_inodes (at_node nodes k f) ≡ all_inodes nodes
kinds-at_node k f kept nodes sorted = kinds_changed k f kept nodes sorted (value_at key_cmp k nodes) refl

names_changed : (k : Key) (f : Node → Node) → ((n : Node) → (f n).entries ≡ n.entries) → (nodes : List (Key × Node)) → is_sorted key_cmp nodes ≡ true → (o : Option Node) → value_at key_cmp k nodes ≡ o → all_names (changed_node nodes k o f) ≡ all_names nodes
names_changed k f kept nodes sorted None is = refl
names_changed k f kept nodes sorted (Some n) is = all_names-put_same k n (f n) nodes sorted is (kept n)

pub names-at_node : (k : Key) (f : Node → Node) → ((n : Node) → (f n).entries ≡ n.entries) → (nodes : List (Key × Node)) → is_sorted key_cmp nodes ≡ true → all_names (at_node nodes k f) ≡ all_names nodes
names-at_node k f kept nodes sorted = names_changed k f kept nodes sorted (value_at key_cmp k nodes) refl

-- where that directory is noted already
pub unmoved : (k : Key) (parent : Option Key) (n : Node) (nodes : List (Key × Node)) → T (is_sorted key_cmp nodes) → Some n ≡ value_at key_cmp k nodes → n.parent ≡ parent → nodes ≡ at_node nodes k (moved_to parent)
unmoved k parent n nodes sorted found same =
    sym (put_same key_cmp keys_total k n nodes (to_test _ sorted) (sym found))
    ∙ ap (λ above. put key_cmp k (moved_to above n) nodes) same
    ∙ ap (λ o. changed_node nodes k o (moved_to parent)) found

-- ---- a name more

pub names-entered : (d : Key) (name : List ℕ) (ino : Key) (subdirs : ℕ) (v : Node) (nodes : List (Key × Node)) → is_sorted key_cmp nodes ≡ true → value_at key_cmp d nodes ≡ Some v → all_names (at_node nodes d (entered name ino subdirs)) ≡ put place_cmp (d, name) ino (all_names nodes)
names-entered d name ino subdirs v nodes sorted found =
    ap (λ o. all_names (changed_node nodes d o (entered name ino subdirs))) found
    ∙ all_names-put_name d v (entered name ino subdirs v) name ino nodes sorted found refl

-- ---- a name less

abbrev pub without : Place → List (Place × Key) → List (Place × Key)
without p names = where_key place_cmp (λ q. not (eq_by_cmp place_cmp q p)) names

-- another directory keeps its names
without_other : (d : Key) (name : List ℕ) (k : Key) (ns : List (List ℕ × Key)) → same_key k d ≡ false → without (d, name) (names_in k ns) ≡ names_in k ns
without_other d name k [] other = refl
without_other d name k (n ∷ ns) other =
    ap (λ b. cond (not b) (((k, n.0), n.1) ∷ without (d, name) (names_in k ns)) (without (d, name) (names_in k ns))) (other_then (key_cmp k d) (name_cmp n.0 name) other)
    ∙ ap (λ l. ((k, n.0), n.1) ∷ l) (without_other d name k ns other)

without_here : (d : Key) (name : List ℕ) (ns : List (List ℕ × Key)) → without (d, name) (names_in d ns) ≡ names_in d (where_key name_cmp (λ m. not (eq_by_cmp name_cmp m name)) ns)
without_here d name [] = refl
without_here d name (n ∷ ns) =
    ap (λ r. cond (not (is_eq (ordering_then r (name_cmp n.0 name)))) (((d, n.0), n.1) ∷ without (d, name) (names_in d ns)) (without (d, name) (names_in d ns))) (tied_itself keys_total d)
    ∙ by (eq_by_cmp name_cmp n.0 name) (without_here d name ns)
  where
    by : (b : Bool) → without (d, name) (names_in d ns) ≡ names_in d (where_key name_cmp (λ m. not (eq_by_cmp name_cmp m name)) ns) → cond (not b) (((d, n.0), n.1) ∷ without (d, name) (names_in d ns)) (without (d, name) (names_in d ns)) ≡ names_in d (cond (not b) (n ∷ where_key name_cmp (λ m. not (eq_by_cmp name_cmp m name)) ns) (where_key name_cmp (λ m. not (eq_by_cmp name_cmp m name)) ns))
    by true again = again
    by false again = ap (λ l. ((d, n.0), n.1) ∷ l) again

other_turned : (d k : Key) → same_key d k ≡ false → same_key k d ≡ false
other_turned d k other = tied_turned key_cmp keys_total exact_keys k d ∙ other

without_behind : (d : Key) (name : List ℕ) (nodes : List (Key × Node)) → value_at key_cmp d nodes ≡ None → without (d, name) (all_names nodes) ≡ all_names nodes
without_behind d name [] none = refl
without_behind d name (e ∷ es) none =
    filter-append (λ f. not (eq_by_cmp place_cmp f.0 (d, name))) (names_in e.0 e.1.entries) (all_names es)
    ∙ by (same_key d e.0) refl none (without_behind d name es)
  where
    by : (b : Bool) → same_key d e.0 ≡ b → cond b (Some e.1) (value_at key_cmp d es) ≡ None → (value_at key_cmp d es ≡ None → without (d, name) (all_names es) ≡ all_names es) → without (d, name) (names_in e.0 e.1.entries) ++ without (d, name) (all_names es) ≡ names_in e.0 e.1.entries ++ all_names es
    by true same none again = cc
    by false other none again = λ i. without_other d name e.0 e.1.entries (other_turned d e.0 other) i ++ again none i

left_here : (d : Key) (v w : Node) (name : List ℕ) (nodes : List (Key × Node)) → is_sorted key_cmp nodes ≡ true → value_at key_cmp d nodes ≡ Some v → w.entries ≡ where_key name_cmp (λ m. not (eq_by_cmp name_cmp m name)) v.entries → all_names (put key_cmp d w nodes) ≡ without (d, name) (all_names nodes)
left_here d v w name [] sorted found is = cc
left_here d v w name (e ∷ es) sorted found is =
    let both = both_true (below_all key_cmp e.0 es) (is_sorted key_cmp es) sorted in
    by (λ f. left_here d v w name es both.1 f is) (key_cmp d e.0) refl both.0 found
    ∙ sym (filter-append (λ f. not (eq_by_cmp place_cmp f.0 (d, name))) (names_in e.0 e.1.entries) (all_names es))
  where
    by : (value_at key_cmp d es ≡ Some v → all_names (put key_cmp d w es) ≡ without (d, name) (all_names es)) → (r : Ordering) → key_cmp d e.0 ≡ r → below_all key_cmp e.0 es ≡ true → cond (is_eq r) (Some e.1) (value_at key_cmp d es) ≡ Some v → all_names (by_order r ((d, w) ∷ e ∷ es) ((e.0, w) ∷ es) (e ∷ put key_cmp d w es)) ≡ without (d, name) (names_in e.0 e.1.entries) ++ without (d, name) (all_names es)
    by again Less less below found = absurd (found_later key_cmp keys_total d v e es less below found)
    by again Equal tied below found =
        let here : v ≡ e.1 = cc in
        let same : d ≡ e.0 = exact_keys d e.0 tied in
        ap (λ ns. names_in e.0 ns ++ all_names es) (is ∙ ap (λ (n : Node). where_key name_cmp (λ m. not (eq_by_cmp name_cmp m name)) n.entries) here)
        ∙ (λ i. sym (without_here e.0 name e.1.entries) i ++ sym (without_behind e.0 name es (find_below key_cmp e.0 es below)) i)
        ∙ ap (λ (k : Key). without (k, name) (names_in e.0 e.1.entries) ++ without (k, name) (all_names es)) (sym same)
    by again Greater more below found =
        λ i. sym (without_other d name e.0 e.1.entries (other_turned d e.0 (ap is_eq more))) i ++ again found i

names_left : (d : Key) (name : List ℕ) (directory : Bool) (nodes : List (Key × Node)) → is_sorted key_cmp nodes ≡ true → (o : Option Node) → value_at key_cmp d nodes ≡ o → all_names (changed_node nodes d o (left name directory)) ≡ without (d, name) (all_names nodes)
names_left d name directory nodes sorted None is = sym (without_behind d name nodes is)
names_left d name directory nodes sorted (Some v) is = left_here d v (left name directory v) name nodes sorted is refl

pub names-left : (d : Key) (name : List ℕ) (directory : Bool) (nodes : List (Key × Node)) → is_sorted key_cmp nodes ≡ true → all_names (at_node nodes d (left name directory)) ≡ without (d, name) (all_names nodes)
names-left d name directory nodes sorted = names_left d name directory nodes sorted (value_at key_cmp d nodes) refl

-- ---- what is kept of each inode

-- what g shows of each inode is as P says
abbrev pub Each : {A : Type 0} → (Node → A) → (Key → A → Type 0) → List (Key × Node) → Type 0
Each g P nodes = (q : Key) (n : Node) → value_at key_cmp q nodes ≡ Some n → P q (g n)

mapped : (f : Node → Node) (o : Option Node) (n : Node) → option_map f o ≡ Some n → (m : Node) × (o ≡ Some m) × (f m ≡ n)
mapped f None n h = cc
mapped f (Some m) n h = (m, refl, cc)

module _ {A : Type 0} (g : Node → A) (k : Key) (f : Node → Node) (nodes : List (Key × Node)) where
  pub each_changed : (P Q : Key → A → Type 0) → ((n : Node) → value_at key_cmp k nodes ≡ Some n → P k (g n) → Q k (g (f n))) → ((q : Key) (a : A) → same_key q k ≡ false → P q a → Q q a) → Each g P nodes → Each g Q (at_node nodes k f)
  each_changed P Q here there each q n found = by (same_key q k) refl (sym (find-at_node q k f nodes) ∙ found)
    where
      at : q ≡ k → (m : Node) × (value_at key_cmp k nodes ≡ Some m) × (f m ≡ n) → Q q (g n)
      at same w = subst (λ (p : Key). Q p (g n)) (sym same) (subst (λ (m : Node). Q k (g m)) w.2 (here w.0 w.1 (each k w.0 w.1)))

      by : (b : Bool) → same_key q k ≡ b → cond b (option_map f (value_at key_cmp k nodes)) (value_at key_cmp q nodes) ≡ Some n → Q q (g n)
      by true same is = at (same_key_is q k same) (mapped f (value_at key_cmp k nodes) n is)
      by false other is = there q (g n) other (each q n is)

  pub each_kept : (P : Key → A → Type 0) → ((n : Node) → g (f n) ≡ g n) → Each g P nodes → Each g P (at_node nodes k f)
  each_kept P kept each = each_changed P P (λ n found h. subst (λ a. P k a) (sym (kept n)) h) (λ q a other h. h) each
