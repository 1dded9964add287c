-- What another inode in the list makes of the tree.
use Rattle.std.proofs.Common.{◌≡◌, ℕ, List, [], ◌∷◌, ◌++◌, Some, None, true, cond, refl, sym, ap, ◌∙◌}
use Rattle.std.specs.declared.cmp.Ordering.{Ordering}
use Rattle.std.specs.declared.cmp.Ordering.TheVariants.{Less, Equal, Greater}
use Rattle.std.specs.Cmp.{tied_itself}
use Rattle.std.specs.Ordering.{is_eq, is_lt, ordering_then}
use Rattle.std.specs.FinMap.Entries.{find as value_at, put, by_order, below_all, is_sorted}
use Rattle.ivy_base.specs.declared.key.Key.{Key}
use Rattle.ivy_base.specs.Naming.{key_cmp}
use Rattle.tree_model.specs.Tree.{Place, place_cmp}
use Rattle.tree_model.proofs.Keys.{keys_total, exact_keys}
use Rattle.tree_model.proofs.Sound.{both_true}
use Rattle.dir_replay.specs.declared.nodes.Node.{Node}
use Rattle.dir_replay.specs.Bare.{bare_inode}
use Rattle.dir_replay.specs.Entries.{name_cmp}
use Rattle.dir_replay.specs.View.{names_in, all_names, all_inodes}
use Rattle.dir_replay.proofs.Sorted.{is_less, found_later}

pub all_inodes-put : (k : Key) (w : Node) (nodes : List (Key × Node)) → all_inodes (put key_cmp k w nodes) ≡ put key_cmp k (bare_inode w.kind) (all_inodes nodes)
all_inodes-put k w [] = refl
all_inodes-put k w (e ∷ es) =
    elim (key_cmp k e.0) as (λ r. all_inodes (by_order r ((k, w) ∷ e ∷ es) ((e.0, w) ∷ es) (e ∷ put key_cmp k w es)) ≡ by_order r ((k, (bare_inode w.kind)) ∷ all_inodes (e ∷ es)) ((e.0, (bare_inode w.kind)) ∷ all_inodes es) ((e.0, bare_inode e.1.kind) ∷ put key_cmp k (bare_inode w.kind) (all_inodes es))) [
      | Less ↦ refl
      | Equal ↦ refl
      | Greater ↦ ap (λ l. (e.0, bare_inode e.1.kind) ∷ l) (all_inodes-put k w es)
    ]

-- a new inode has no names in it
pub all_names-put_new : (k : Key) (w : Node) (nodes : List (Key × Node)) → w.entries ≡ [] → value_at key_cmp k nodes ≡ None → all_names (put key_cmp k w nodes) ≡ all_names nodes
all_names-put_new k w [] empty missing = ap (λ ns. names_in k ns ++ []) empty
all_names-put_new k w (e ∷ es) empty missing = by (all_names-put_new k w es empty) (key_cmp k e.0) missing
  where
    by : (value_at key_cmp k es ≡ None → all_names (put key_cmp k w es) ≡ all_names es) → (r : Ordering) → cond (is_eq r) (Some e.1) (value_at key_cmp k es) ≡ None → all_names (by_order r ((k, w) ∷ e ∷ es) ((e.0, w) ∷ es) (e ∷ put key_cmp k w es)) ≡ all_names (e ∷ es)
    by again Less missing = ap (λ ns. names_in k ns ++ all_names (e ∷ es)) empty
    by again Equal missing = cc
    by again Greater missing = ap (λ l. names_in e.0 e.1.entries ++ l) (again missing)

-- an inode with the names that were in it
pub all_names-put_same : (k : Key) (v w : Node) (nodes : List (Key × Node)) → is_sorted key_cmp nodes ≡ true → value_at key_cmp k nodes ≡ Some v → w.entries ≡ v.entries → all_names (put key_cmp k w nodes) ≡ all_names nodes
all_names-put_same k v w [] sorted found same = cc
all_names-put_same k v w (e ∷ es) sorted found same =
    let both = both_true (below_all key_cmp e.0 es) (is_sorted key_cmp es) sorted in
    by (λ f. all_names-put_same k v w es both.1 f same) (key_cmp k e.0) refl both.0 found
  where
    by : (value_at key_cmp k es ≡ Some v → all_names (put key_cmp k w es) ≡ all_names es) → (r : Ordering) → key_cmp k e.0 ≡ r → below_all key_cmp e.0 es ≡ true → cond (is_eq r) (Some e.1) (value_at key_cmp k es) ≡ Some v → all_names (by_order r ((k, w) ∷ e ∷ es) ((e.0, w) ∷ es) (e ∷ put key_cmp k w es)) ≡ all_names (e ∷ es)
    by again Less less below found = absurd (found_later key_cmp keys_total k v e es less below found)
    by again Equal tied below found = let is : v ≡ e.1 = cc in ap (λ ns. names_in e.0 ns ++ all_names es) (same ∙ ap (λ (n : Node). n.entries) is)
    by again Greater more below found = ap (λ l. names_in e.0 e.1.entries ++ l) (again found)

-- ---- a name more

-- a name before all those of other directories
put_before : (k : Key) (name : List ℕ) (ino : Key) (nodes : List (Key × Node)) → below_all key_cmp k nodes ≡ true → put place_cmp (k, name) ino (all_names nodes) ≡ ((k, name), ino) ∷ all_names nodes
put_before k name ino [] below = refl
put_before k name ino (e ∷ es) below =
    let both = both_true (is_lt (key_cmp k e.0)) (below_all key_cmp k es) below in
    by (put_before k name ino es both.1) (is_less _ both.0) e.1.entries
  where
    by : put place_cmp (k, name) ino (all_names es) ≡ ((k, name), ino) ∷ all_names es → key_cmp k e.0 ≡ Less → (ns : List (List ℕ × Key)) → put place_cmp (k, name) ino (names_in e.0 ns ++ all_names es) ≡ ((k, name), ino) ∷ (names_in e.0 ns ++ all_names es)
    by again less [] = again
    by again less (n ∷ ns) = ap (λ r. by_order (ordering_then r (name_cmp name n.0)) (((k, name), ino) ∷ (names_in e.0 (n ∷ ns) ++ all_names es)) (((e.0, n.0), ino) ∷ (names_in e.0 ns ++ all_names es)) (((e.0, n.0), n.1) ∷ put place_cmp (k, name) ino (names_in e.0 ns ++ all_names es))) less

-- a name among those of its directory
put_here : (k : Key) (name : List ℕ) (ino : Key) (nodes : List (Key × Node)) → below_all key_cmp k nodes ≡ true → (ns : List (List ℕ × Key)) → put place_cmp (k, name) ino (names_in k ns ++ all_names nodes) ≡ names_in k (put name_cmp name ino ns) ++ all_names nodes
put_here k name ino nodes below [] = put_before k name ino nodes below
put_here k name ino nodes below (n ∷ ns) =
    ap (λ r. by_order (ordering_then r (name_cmp name n.0)) (((k, name), ino) ∷ (names_in k (n ∷ ns) ++ all_names nodes)) (((k, n.0), ino) ∷ (names_in k ns ++ all_names nodes)) (((k, n.0), n.1) ∷ put place_cmp (k, name) ino (names_in k ns ++ all_names nodes))) (tied_itself keys_total k)
    ∙ by (name_cmp name n.0) (put_here k name ino nodes below ns)
  where
    by : (r : Ordering) → put place_cmp (k, name) ino (names_in k ns ++ all_names nodes) ≡ names_in k (put name_cmp name ino ns) ++ all_names nodes → by_order r (((k, name), ino) ∷ (names_in k (n ∷ ns) ++ all_names nodes)) (((k, n.0), ino) ∷ (names_in k ns ++ all_names nodes)) (((k, n.0), n.1) ∷ put place_cmp (k, name) ino (names_in k ns ++ all_names nodes)) ≡ names_in k (by_order r ((name, ino) ∷ n ∷ ns) ((n.0, ino) ∷ ns) (n ∷ put name_cmp name ino ns)) ++ all_names nodes
    by Less rest = refl
    by Equal rest = refl
    by Greater rest = ap (λ l. ((k, n.0), n.1) ∷ l) rest

-- a name after those of a directory that comes before
put_past : (d k : Key) (name : List ℕ) (ino : Key) (rest : List (Place × Key)) → key_cmp d k ≡ Greater → (ns : List (List ℕ × Key)) → put place_cmp (d, name) ino (names_in k ns ++ rest) ≡ names_in k ns ++ put place_cmp (d, name) ino rest
put_past d k name ino rest more [] = refl
put_past d k name ino rest more (n ∷ ns) =
    ap (λ r. by_order (ordering_then r (name_cmp name n.0)) (((d, name), ino) ∷ (names_in k (n ∷ ns) ++ rest)) (((k, n.0), ino) ∷ (names_in k ns ++ rest)) (((k, n.0), n.1) ∷ put place_cmp (d, name) ino (names_in k ns ++ rest))) more
    ∙ ap (λ l. ((k, n.0), n.1) ∷ l) (put_past d k name ino rest more ns)

pub all_names-put_name : (d : Key) (v w : Node) (name : List ℕ) (ino : Key) (nodes : List (Key × Node)) → is_sorted key_cmp nodes ≡ true → value_at key_cmp d nodes ≡ Some v → w.entries ≡ put name_cmp name ino v.entries → all_names (put key_cmp d w nodes) ≡ put place_cmp (d, name) ino (all_names nodes)
all_names-put_name d v w name ino [] sorted found named = cc
all_names-put_name d v w name ino (e ∷ es) sorted found named =
    let both = both_true (below_all key_cmp e.0 es) (is_sorted key_cmp es) sorted in
    by (λ f. all_names-put_name d v w name ino es both.1 f named) (key_cmp d e.0) refl both.0 found
  where
    by : (value_at key_cmp d es ≡ Some v → all_names (put key_cmp d w es) ≡ put place_cmp (d, name) ino (all_names es)) → (r : Ordering) → key_cmp d e.0 ≡ r → below_all key_cmp e.0 es ≡ true → cond (is_eq r) (Some e.1) (value_at key_cmp d es) ≡ Some v → all_names (by_order r ((d, w) ∷ e ∷ es) ((e.0, w) ∷ es) (e ∷ put key_cmp d w es)) ≡ put place_cmp (d, name) ino (names_in e.0 e.1.entries ++ all_names es)
    by again Less less below found = absurd (found_later key_cmp keys_total d v e es less below found)
    by again Equal tied below found =
        let is : v ≡ e.1 = cc in
        ap (λ ns. names_in e.0 ns ++ all_names es) (named ∙ ap (λ (n : Node). put name_cmp name ino n.entries) is)
        ∙ sym (put_here e.0 name ino es below e.1.entries)
        ∙ ap (λ (k : Key). put place_cmp (k, name) ino (names_in e.0 e.1.entries ++ all_names es)) (sym (exact_keys d e.0 tied))
    by again Greater more below found = ap (λ l. names_in e.0 e.1.entries ++ l) (again found) ∙ sym (put_past d e.0 name ino (all_names es) more e.1.entries)
