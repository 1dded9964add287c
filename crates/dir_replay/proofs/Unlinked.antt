-- A name less.
use Rattle.std.proofs.Common.{◌≡◌, ℕ, ◌+◌, List, Some, None, Bool, true, false, cond, ◌&&◌, refl, sym, ap, ◌∙◌, subst}
use Rattle.std.specs.Option.{option_map_or}
use Rattle.std.specs.Ordering.{eq_by_cmp}
use Rattle.std.specs.FinMap.Entries.{find as value_at, is_sorted}
use Rattle.ivy_base.specs.declared.key.Key.{Key}
use Rattle.ivy_base.specs.declared.operation.Op.TheVariants as op
use Rattle.ivy_base.specs.Naming.{key_cmp}
use Rattle.tree_model.specs.Tree.{Tree, Place, place_cmp, same_key, inode_at, entry, is_directory, has_name, parent, name_count, subdirectory_count}
use Rattle.tree_model.specs.Apply.{may_lose_name, without_name}
use Rattle.tree_model.specs.Sound.{Names, IsSound}
use Rattle.tree_model.proofs.Keys.{same_key_itself, same_place_itself}
use Rattle.tree_model.proofs.Parents.{some_name}
use Rattle.dir_replay.specs.declared.nodes.Node.{Node}
use Rattle.dir_replay.specs.Counts.{less_one_if}
use Rattle.dir_replay.specs.Nodes.{at_node, left, unnamed}
use Rattle.dir_replay.specs.View.{tree_of}
use Rattle.dir_replay.specs.Tied.{IsTied, directory_parent}
use Rattle.dir_replay.proofs.Sorted.{sorted_nodes}
use Rattle.dir_replay.proofs.Counts.{weight}
use Rattle.dir_replay.proofs.Changes.{Each, each_kept, each_changed, sorted-at_node, kinds-at_node, names-at_node, names-left}
use Rattle.dir_replay.proofs.Shown.{bare-tree_of}
use Rattle.dir_replay.proofs.Above.{parent_of_unnamed, parent_kept}
use Rattle.dir_replay.proofs.Effects.{sound_after}
use Rattle.dir_replay.proofs.Ties.{ParentIn, NamesIn, SubdirsIn, tied_by, one_less, no_weight_behind, kept_without, was_elsewhere, names_without, subdirs_without}

-- a directory whose one name is taken out has none
pub nameless : (t : Tree) → IsSound t → (names : List (Place × Key)) (d : Place) (x : Key) → is_directory (inode_at t x) ≡ true → Names t d x → ((p : Place) → value_at place_cmp p names ≡ Some x → (eq_by_cmp place_cmp p d ≡ false) × (value_at place_cmp p t.names ≡ Some x)) → (p : Place) → value_at place_cmp p names ≡ Some x → ⊥
nameless t s names d x isd here was p found =
    let before = was p found in
    let is : p ≡ d = s.once p d x isd before.1 here in
    let tied : eq_by_cmp place_cmp p d ≡ true = subst (λ (q : Place). eq_by_cmp place_cmp q d ≡ true) (sym is) (same_place_itself d) in
    let apart = before.0 in
    let never : true ≡ false = sym tied ∙ apart in absurd cc

pub without_parent : (t u : Tree) → IsSound t → IsSound u → (x : Key) → is_directory (inode_at u x) ≡ is_directory (inode_at t x) → (is_directory (inode_at t x) ≡ true → (p : Place) → Names u p x → ⊥) → None ≡ directory_parent u x
without_parent t u s v x kind none = by (is_directory (inode_at u x)) refl
  where
    nameless_there : is_directory (inode_at t x) ≡ true → (b : Bool) → has_name u x ≡ b → None ≡ parent u x
    nameless_there isd true named = let p = some_name u v x named in absurd (none isd p.0 p.1)
    nameless_there isd false unnamed = sym (parent_of_unnamed u v x unnamed)

    by : (b : Bool) → is_directory (inode_at u x) ≡ b → None ≡ cond b (parent u x) None
    by true isd = nameless_there (sym kind ∙ isd) (has_name u x) refl
    by false other = refl

module _ (nodes : List (Key × Node)) (tied : IsTied nodes) (dir : Key) (name : List ℕ) (ino : Key) (found : entry (tree_of nodes) dir name ≡ Some ino) (may : may_lose_name (tree_of nodes) ino ≡ true) where
  abbrev then : Tree
  then = without_name (tree_of nodes) dir name

  effective : option_map_or (may_lose_name (tree_of nodes)) (entry (tree_of nodes) dir name) false ≡ true
  effective = ap (λ o. option_map_or (may_lose_name (tree_of nodes)) o false) found ∙ may

  sound_then : IsSound then
  sound_then = subst (λ b. IsSound (cond b then (tree_of nodes))) effective (sound_after (tree_of nodes) tied.sound (bare-tree_of nodes) (op.Unlink dir name) tt)

  order : is_sorted place_cmp (tree_of nodes).names ≡ true
  order = tied.sound.order.names

  unchanged_parent : (q : Key) → same_key q ino ≡ false → directory_parent (tree_of nodes) q ≡ directory_parent then q
  unchanged_parent q other = parent_kept (tree_of nodes) then tied.sound sound_then q refl
      (sym (no_weight_behind (same_key q ino) _ other) ∙ names_without (tree_of nodes) dir name ino q order found)
      (λ p named. kept_without (tree_of nodes).names (dir, name) p ino q found other named)

  no_parent : None ≡ directory_parent then ino
  no_parent = without_parent (tree_of nodes) then tied.sound sound_then ino refl
      (λ isd. nameless (tree_of nodes) tied.sound then.names (dir, name) ino isd found (λ p h. was_elsewhere (tree_of nodes).names (dir, name) p ino h))

  module _ (directory : Bool) (isd : directory ≡ is_directory (inode_at (tree_of nodes) ino)) where
    abbrev between : List (Key × Node)
    between = at_node nodes dir (left name directory)

    abbrev after : List (Key × Node)
    after = at_node between ino unnamed

    sorted : is_sorted key_cmp nodes ≡ true
    sorted = sorted_nodes nodes tied

    sorted_between : is_sorted key_cmp between ≡ true
    sorted_between = sorted-at_node dir (left name directory) nodes sorted

    tree_of-unlinked : tree_of after ≡ then
    tree_of-unlinked = λ i. record {
      names = (names-at_node ino unnamed (λ n. refl) between sorted_between ∙ names-left dir name directory nodes sorted) i;
      inodes = (kinds-at_node ino unnamed (λ n. refl) between sorted_between ∙ kinds-at_node dir (left name directory) (λ n. refl) nodes sorted) i;
    }

    parents_then : Each (λ n. n.parent) (ParentIn then) after
    parents_then = each_changed (λ n. n.parent) ino unnamed between (ParentIn (tree_of nodes)) (ParentIn then)
        (λ n found h. no_parent)
        (λ q o other h. h ∙ unchanged_parent q other)
        (each_kept (λ n. n.parent) dir (left name directory) nodes (ParentIn (tree_of nodes)) (λ n. refl) tied.parents)

    names_then : Each (λ n. n.names) (NamesIn then) after
    names_then = each_changed (λ n. n.names) ino unnamed between (NamesIn (tree_of nodes)) (NamesIn then)
        (λ n at h. ap (λ c. less_one_if c true) h ∙ one_less (name_count (tree_of nodes) ino) (name_count then ino) true (ap (λ b. name_count then ino + weight b) (sym (same_key_itself ino)) ∙ names_without (tree_of nodes) dir name ino ino order found))
        (λ q c other h. h ∙ sym (names_without (tree_of nodes) dir name ino q order found) ∙ no_weight_behind (same_key q ino) _ other)
        (each_kept (λ n. n.names) dir (left name directory) nodes (NamesIn (tree_of nodes)) (λ n. refl) tied.names)

    subdirs_then : Each (λ n. n.subdirs) (SubdirsIn then) after
    subdirs_then = each_kept (λ n. n.subdirs) ino unnamed between (SubdirsIn then) (λ n. refl)
        (each_changed (λ n. n.subdirs) dir (left name directory) nodes (SubdirsIn (tree_of nodes)) (SubdirsIn then)
        (λ n at h. ap (λ c. less_one_if c directory) h ∙ one_less (subdirectory_count (tree_of nodes) dir) (subdirectory_count then dir) directory (ap (λ b. subdirectory_count then dir + weight b) (isd ∙ ap (λ b. b && is_directory (inode_at (tree_of nodes) ino)) (sym (same_key_itself dir))) ∙ subdirs_without (tree_of nodes) dir name ino dir order found))
        (λ q s other h. h ∙ sym (subdirs_without (tree_of nodes) dir name ino q order found) ∙ no_weight_behind (same_key q dir && is_directory (inode_at (tree_of nodes) ino)) _ (ap (λ b. b && is_directory (inode_at (tree_of nodes) ino)) other))
        tied.subdirs)

    tied-unlinked : IsTied after
    tied-unlinked = tied_by after then tree_of-unlinked (sound_then, parents_then, names_then, subdirs_then)

-- what `unlink` leaves of the inodes
pub unlinked : (nodes : List (Key × Node)) → IsTied nodes → (t : Tree) → tree_of nodes ≡ t → (dir : Key) (name : List ℕ) (ino : Key) → Some ino ≡ entry t dir name → true ≡ may_lose_name t ino
    → (directory : Bool) → directory ≡ is_directory (inode_at t ino) → (after : List (Key × Node)) → after ≡ at_node (at_node nodes dir (left name directory)) ino unnamed
    → (tree_of after ≡ cond (option_map_or (may_lose_name t) (entry t dir name) false) (without_name t dir name) t) × IsTied after
unlinked nodes tied t seen dir name ino found may directory isd after is =
    subst (λ (u : Tree). Some ino ≡ entry u dir name → true ≡ may_lose_name u ino → directory ≡ is_directory (inode_at u ino) → (tree_of after ≡ cond (option_map_or (may_lose_name u) (entry u dir name) false) (without_name u dir name) u) × IsTied after) seen
    (λ found may isd. (
      ap tree_of is ∙ tree_of-unlinked nodes tied dir name ino (sym found) (sym may) directory isd ∙ ap (λ b. cond b (without_name (tree_of nodes) dir name) (tree_of nodes)) (sym (effective nodes tied dir name ino (sym found) (sym may))),
      subst (λ (ns : List (Key × Node)). IsTied ns) (sym is) (tied-unlinked nodes tied dir name ino (sym found) (sym may) directory isd),
    ))
    found may isd
