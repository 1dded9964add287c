-- Whether a directory has entries.
use Rattle.std.proofs.Common.{◌≡◌, ℕ, List, [], ◌∷◌, Option, Some, None, Bool, true, false, IsTrue, ◌↔◌, cond, not, ◌||◌, refl, sym, ap, ◌∙◌}
use Rattle.std.specs.List.{list_any}
use Rattle.std.specs.Ordering.{is_lt}
use Rattle.std.specs.FinMap.Entries.{find as value_at, below_all, is_sorted}
use Rattle.std.proofs.lemmas.List.Folds.{list_any-append}
use Rattle.ivy_base.specs.declared.key.Key.{Key}
use Rattle.ivy_base.specs.Naming.{key_cmp}
use Rattle.tree_model.specs.Tree.{same_key, is_empty_directory}
use Rattle.tree_model.proofs.Keys.{same_key_is, same_key_itself}
use Rattle.tree_model.proofs.Sound.{both_true}
use Rattle.tree_model.proofs.Climb.{less_is_not_equal}
use Rattle.dir_replay.specs.declared.nodes.Node.{Node}
use Rattle.dir_replay.specs.View.{names_in, all_names, tree_of}
use Rattle.dir_replay.specs.Tied.{IsTied}
use Rattle.dir_replay.proofs.Sorted.{sorted_nodes}

abbrev pub some_of : List (List ℕ × Key) → Bool
some_of [] = false
some_of (n ∷ ns) = true

abbrev pub some_in : Option Node → Bool
some_in None = false
some_in (Some n) = some_of n.entries

any_here : (k : Key) (names : List (List ℕ × Key)) → list_any (λ e. same_key k e.0.0) (names_in k names) ≡ some_of names
any_here k [] = refl
any_here k (n ∷ ns) = λ i. same_key_itself k i || list_any (λ e. same_key k e.0.0) (names_in k ns)

any_other : (d k : Key) (names : List (List ℕ × Key)) → same_key d k ≡ false → list_any (λ e. same_key d e.0.0) (names_in k names) ≡ false
any_other d k [] other = refl
any_other d k (n ∷ ns) other = λ i. other i || any_other d k ns other i

any_behind : (d : Key) (nodes : List (Key × Node)) → below_all key_cmp d nodes ≡ true → list_any (λ e. same_key d e.0.0) (all_names nodes) ≡ false
any_behind d [] below = refl
any_behind d (e ∷ es) below =
    let both = both_true (is_lt (key_cmp d e.0)) (below_all key_cmp d es) below in
    list_any-append (λ e. same_key d e.0.0) (names_in e.0 e.1.entries) (all_names es)
    ∙ (λ i. any_other d e.0 e.1.entries (less_is_not_equal _ both.0) i || any_behind d es both.1 i)

pub any_names : (d : Key) (nodes : List (Key × Node)) → is_sorted key_cmp nodes ≡ true → list_any (λ e. same_key d e.0.0) (all_names nodes) ≡ some_in (value_at key_cmp d nodes)
any_names d [] sorted = refl
any_names d (e ∷ es) sorted =
    let both = both_true (below_all key_cmp e.0 es) (is_sorted key_cmp es) sorted in
    list_any-append (λ e. same_key d e.0.0) (names_in e.0 e.1.entries) (all_names es)
    ∙ by (same_key d e.0) refl both.0 (any_names d es both.1)
  where
    or_false : (b : Bool) → (b || false) ≡ b
    or_false true = refl
    or_false false = refl

    by : (b : Bool) → same_key d e.0 ≡ b → below_all key_cmp e.0 es ≡ true → list_any (λ f. same_key d f.0.0) (all_names es) ≡ some_in (value_at key_cmp d es) → (list_any (λ f. same_key d f.0.0) (names_in e.0 e.1.entries) || list_any (λ f. same_key d f.0.0) (all_names es)) ≡ some_in (cond b (Some e.1) (value_at key_cmp d es))
    by true same below rest =
        ap (λ (q : Key). list_any (λ f. same_key q f.0.0) (names_in e.0 e.1.entries) || list_any (λ f. same_key q f.0.0) (all_names es)) (same_key_is d e.0 same)
        ∙ (λ i. any_here e.0 e.1.entries i || any_behind e.0 es below i) ∙ or_false (some_of e.1.entries)
    by false other below rest = λ i. any_other d e.0 e.1.entries other i || rest i

pub empty-missing : (nodes : List (Key × Node)) → IsTied nodes → (d : Key) → None ≡ value_at key_cmp d nodes → true ≡ is_empty_directory (tree_of nodes) d
empty-missing nodes tied d is = sym (ap not (any_names d nodes (sorted_nodes nodes tied) ∙ ap some_in (sym is)))

pub empty-found : (nodes : List (Key × Node)) → IsTied nodes → (d : Key) (n : Node) → Some n ≡ value_at key_cmp d nodes → (b : Bool) → IsTrue b ↔ (n.entries ≡ []) → b ≡ is_empty_directory (tree_of nodes) d
empty-found nodes tied d n is b answer = by n.entries b answer ∙ sym (ap not (any_names d nodes (sorted_nodes nodes tied) ∙ ap some_in (sym is)))
  where
    by : (names : List (List ℕ × Key)) (b : Bool) → IsTrue b ↔ (names ≡ []) → b ≡ not (some_of names)
    by [] b answer = answer.1 refl
    by (x ∷ xs) true answer = let none = answer.0 refl in cc
    by (x ∷ xs) false answer = refl
