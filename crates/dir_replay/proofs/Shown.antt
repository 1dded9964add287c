-- What is kept of an inode is what the tree says of it, also of one that isn't there.
use Rattle.std.proofs.Common.{◌≡◌, ℕ, List, [], ◌∷◌, ◌++◌, Option, Some, None, Bool, true, false, cond, filter_map, map, option_map, refl, sym, ap, ◌∙◌}
use Rattle.std.specs.Ordering.{is_lt}
use Rattle.std.specs.FinMap.Entries.{find as value_at, below_all, is_sorted}
use Rattle.std.specs.List.{cons_option}
use Rattle.std.proofs.lemmas.List.{append-nil}
use Rattle.std.proofs.lemmas.List.Elements.{filter_map-append}
use Rattle.ivy_base.specs.declared.key.Key.{Key}
use Rattle.ivy_base.specs.Naming.{key_cmp}
use Rattle.tree_model.specs.Tree.{Place, same_key, inode_at, is_directory, name_count, subdirectory_count, listing, parent}
use Rattle.tree_model.proofs.Keys.{same_key_is, same_key_itself}
use Rattle.tree_model.proofs.Sound.{both_true}
use Rattle.tree_model.proofs.Climb.{less_is_not_equal}
use Rattle.tree_model.proofs.Parents.{unnamed_missing}
use Rattle.dir_replay.specs.declared.nodes.Node.{Node}
use Rattle.dir_replay.specs.Bare.{bare_inode, IsBare}
use Rattle.dir_replay.specs.Tied.{IsTied, directory_parent}
use Rattle.dir_replay.specs.View.{names_in, all_names, all_inodes, tree_of}
use Rattle.dir_replay.proofs.Sorted.{sorted_nodes}
use Rattle.dir_replay.proofs.Views.{inode_at-found}
use Rattle.dir_replay.proofs.Empty.{some_in, any_names}
use Rattle.dir_replay.proofs.Counts.{none_counted, zero_if}
use Rattle.dir_replay.proofs.Above.{has_name-counted}

bare_inodes : (nodes : List (Key × Node)) → map (λ e. (e.0, bare_inode e.1.kind)) (all_inodes nodes) ≡ all_inodes nodes
bare_inodes [] = refl
bare_inodes (e ∷ es) = ap (λ l. (e.0, bare_inode e.1.kind) ∷ l) (bare_inodes es)

pub bare-tree_of : (nodes : List (Key × Node)) → IsBare (tree_of nodes)
bare-tree_of nodes = λ i. record { names = all_names nodes; inodes = bare_inodes nodes i }

pub kind-found : (nodes : List (Key × Node)) (k : Key) (o : Option Node) → o ≡ value_at key_cmp k nodes → option_map (λ n. n.kind) o ≡ option_map (λ i. i.kind) (inode_at (tree_of nodes) k)
kind-found nodes k o is = by o ∙ ap (option_map (λ i. i.kind)) (inode_at-found nodes k o is)
  where
    by : (o : Option Node) → option_map (λ n. n.kind) o ≡ option_map (λ i. i.kind) (option_map (λ n. bare_inode n.kind) o)
    by None = refl
    by (Some n) = refl

-- ---- of an inode that isn't there

module _ (nodes : List (Key × Node)) (tied : IsTied nodes) (k : Key) (missing : None ≡ value_at key_cmp k nodes) where
  none_there : inode_at (tree_of nodes) k ≡ None
  none_there = sym (inode_at-found nodes k None missing)

  pub parent-missing : None ≡ directory_parent (tree_of nodes) k
  parent-missing = sym (ap (λ o. cond (is_directory o) (parent (tree_of nodes) k) None) none_there)

  pub names-missing : 0 ≡ name_count (tree_of nodes) k
  names-missing = zero_if _ (has_name-counted (tree_of nodes) k ∙ unnamed_missing (tree_of nodes) tied.sound k none_there)

  pub subdirs-missing : 0 ≡ subdirectory_count (tree_of nodes) k
  subdirs-missing = none_counted (λ e. same_key k e.0.0) (λ e. is_directory (inode_at (tree_of nodes) e.1)) (all_names nodes) (any_names k nodes (sorted_nodes nodes tied) ∙ ap some_in (sym missing))

-- ---- listings

abbrev pub entries_at : Option Node → List (List ℕ × Key)
entries_at None = []
entries_at (Some n) = n.entries

abbrev listed : Key → List (Place × Key) → List (List ℕ × Key)
listed d names = filter_map (λ e. cond (same_key d e.0.0) (Some (e.0.1, e.1)) None) names

listed_here : (k : Key) (ns : List (List ℕ × Key)) → listed k (names_in k ns) ≡ ns
listed_here k [] = refl
listed_here k (n ∷ ns) = λ i. cons_option (cond (same_key_itself k i) (Some (n.0, n.1)) None) (listed_here k ns i)

listed_other : (d k : Key) (ns : List (List ℕ × Key)) → same_key d k ≡ false → listed d (names_in k ns) ≡ []
listed_other d k [] other = refl
listed_other d k (n ∷ ns) other = (λ i. cons_option (cond (other i) (Some (n.0, n.1)) None) (listed d (names_in k ns))) ∙ listed_other d k ns other

listed_behind : (d : Key) (nodes : List (Key × Node)) → below_all key_cmp d nodes ≡ true → listed d (all_names nodes) ≡ []
listed_behind d [] below = refl
listed_behind d (e ∷ es) below =
    let both = both_true (is_lt (key_cmp d e.0)) (below_all key_cmp d es) below in
    filter_map-append (λ f. cond (same_key d f.0.0) (Some (f.0.1, f.1)) None) (names_in e.0 e.1.entries) (all_names es)
    ∙ (λ i. listed_other d e.0 e.1.entries (less_is_not_equal _ both.0) i ++ listed_behind d es both.1 i)

listed_names : (d : Key) (nodes : List (Key × Node)) → is_sorted key_cmp nodes ≡ true → listed d (all_names nodes) ≡ entries_at (value_at key_cmp d nodes)
listed_names d [] sorted = refl
listed_names d (e ∷ es) sorted =
    let both = both_true (below_all key_cmp e.0 es) (is_sorted key_cmp es) sorted in
    filter_map-append (λ f. cond (same_key d f.0.0) (Some (f.0.1, f.1)) None) (names_in e.0 e.1.entries) (all_names es)
    ∙ by (same_key d e.0) refl both.0 (listed_names d es both.1)
  where
    by : (b : Bool) → same_key d e.0 ≡ b → below_all key_cmp e.0 es ≡ true → listed d (all_names es) ≡ entries_at (value_at key_cmp d es) → listed d (names_in e.0 e.1.entries) ++ listed d (all_names es) ≡ entries_at (cond b (Some e.1) (value_at key_cmp d es))
    by true same below rest =
        ap (λ (q : Key). listed q (names_in e.0 e.1.entries) ++ listed q (all_names es)) (same_key_is d e.0 same)
        ∙ (λ i. listed_here e.0 e.1.entries i ++ listed_behind e.0 es below i) ∙ append-nil e.1.entries
    by false other below rest = λ i. listed_other d e.0 e.1.entries other i ++ rest i

pub listing-found : (nodes : List (Key × Node)) → IsTied nodes → (d : Key) (o : Option Node) → o ≡ value_at key_cmp d nodes → entries_at o ≡ listing (tree_of nodes) d
listing-found nodes tied d o is = ap entries_at is ∙ sym (listed_names d nodes (sorted_nodes nodes tied))
