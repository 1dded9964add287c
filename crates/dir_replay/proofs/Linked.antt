-- A name more.
use Rattle.std.proofs.Common.{◌≡◌, ℕ, ◌+◌, List, Option, Some, None, Bool, true, false, cond, ◌&&◌, is_some, is_none, refl, sym, ap, ◌∙◌, subst}
use Rattle.std.specs.Prelude.{IfSome}
use Rattle.std.specs.FinMap.Entries.{find as value_at, is_sorted}
use Rattle.ivy_base.specs.declared.key.Key.{Key}
use Rattle.ivy_base.specs.declared.operation.Op.TheVariants as op
use Rattle.ivy_base.specs.Naming.{key_cmp}
use Rattle.tree_model.specs.Tree.{Tree, same_key, inode_at, entry, is_directory, parent, name_count, subdirectory_count}
use Rattle.tree_model.specs.Apply.{may_link, with_name}
use Rattle.tree_model.specs.Sound.{IsSound}
use Rattle.tree_model.proofs.Keys.{same_key_itself}
use Rattle.tree_model.proofs.Sound.{directory_is_some}
use Rattle.tree_model.proofs.Applied.{link_tests}
use Rattle.dir_replay.specs.declared.nodes.Linked.{Linked}
use Rattle.dir_replay.specs.declared.nodes.Node.{Node}
use Rattle.dir_replay.specs.Found.{IsLinked}
use Rattle.dir_replay.specs.Counts.{one_more_if}
use Rattle.dir_replay.specs.Nodes.{at_node, entered, named}
use Rattle.dir_replay.specs.View.{tree_of}
use Rattle.dir_replay.specs.Tied.{IsTied, directory_parent}
use Rattle.dir_replay.proofs.Sorted.{sorted_nodes}
use Rattle.dir_replay.proofs.Views.{inode_at-tree_of, some_node}
use Rattle.dir_replay.proofs.Counts.{weight}
use Rattle.dir_replay.proofs.Changes.{Each, each_kept, each_changed, sorted-at_node, kinds-at_node, names-at_node, names-entered}
use Rattle.dir_replay.proofs.Shown.{bare-tree_of}
use Rattle.dir_replay.proofs.Above.{parent_of_named, parent_kept}
use Rattle.dir_replay.proofs.Effects.{sound_after}
use Rattle.dir_replay.proofs.Ties.{ParentIn, NamesIn, SubdirsIn, none_some, tied_by, one_more, no_weight, found_with, kept_with, names_with, subdirs_with}

pub free_place : {A : Type 0} (o : Option A) → is_none o ≡ true → o ≡ None
free_place None h = refl
free_place (Some x) h = cc

module _ (nodes : List (Key × Node)) (tied : IsTied nodes) (dir : Key) (name : List ℕ) (ino : Key) (may : may_link (tree_of nodes) dir name ino ≡ true) where
  free : entry (tree_of nodes) dir name ≡ None
  free = free_place _ (link_tests (tree_of nodes) dir name ino may).free

  at_dir : (n : Node) × (value_at key_cmp dir nodes ≡ Some n)
  at_dir = some_node _ (ap is_some (sym (inode_at-tree_of nodes dir)) ∙ directory_is_some _ (link_tests (tree_of nodes) dir name ino may).directory)

  abbrev then : Tree
  then = with_name (tree_of nodes) dir name ino

  sound_then : IsSound then
  sound_then = subst (λ b. IsSound (cond b then (tree_of nodes))) may (sound_after (tree_of nodes) tied.sound (bare-tree_of nodes) (op.Link dir name ino) tt)

  unchanged_parent : (q : Key) → same_key q ino ≡ false → directory_parent (tree_of nodes) q ≡ directory_parent then q
  unchanged_parent q other = parent_kept (tree_of nodes) then tied.sound sound_then q refl
      (names_with (tree_of nodes) dir name ino q free ∙ sym (no_weight (same_key q ino) _ other))
      (λ p named. kept_with (tree_of nodes).names (dir, name) ino p q (none_some _ q free) named)

  new_parent : (b : Bool) → is_directory (inode_at (tree_of nodes) ino) ≡ b → cond b (Some dir) None ≡ directory_parent then ino
  new_parent true isd = sym (ap (λ b. cond b (parent then ino) None) isd ∙ parent_of_named then sound_then ino (dir, name) isd (found_with (tree_of nodes).names (dir, name) ino))
  new_parent false other = sym (ap (λ b. cond b (parent then ino) None) other)

  module _ (subdirs names : ℕ) (above : Option Key) (counted : subdirs ≡ one_more_if (subdirectory_count (tree_of nodes) dir) (is_directory (inode_at (tree_of nodes) ino))) (more : names ≡ one_more_if (name_count (tree_of nodes) ino) true) (up : above ≡ cond (is_directory (inode_at (tree_of nodes) ino)) (Some dir) None) where
    abbrev between : List (Key × Node)
    between = at_node nodes dir (entered name ino subdirs)

    abbrev after : List (Key × Node)
    after = at_node between ino (named above names)

    sorted : is_sorted key_cmp nodes ≡ true
    sorted = sorted_nodes nodes tied

    sorted_between : is_sorted key_cmp between ≡ true
    sorted_between = sorted-at_node dir (entered name ino subdirs) nodes sorted

    tree_of-linked : tree_of after ≡ then
    tree_of-linked = λ i. record {
      names = (names-at_node ino (named above names) (λ n. refl) between sorted_between ∙ names-entered dir name ino subdirs at_dir.0 nodes sorted at_dir.1) i;
      inodes = (kinds-at_node ino (named above names) (λ n. refl) between sorted_between ∙ kinds-at_node dir (entered name ino subdirs) (λ n. refl) nodes sorted) i;
    }

    parents_then : Each (λ n. n.parent) (ParentIn then) after
    parents_then = each_changed (λ n. n.parent) ino (named above names) between (ParentIn (tree_of nodes)) (ParentIn then)
        (λ n found h. up ∙ new_parent (is_directory (inode_at (tree_of nodes) ino)) refl)
        (λ q o other h. h ∙ unchanged_parent q other)
        (each_kept (λ n. n.parent) dir (entered name ino subdirs) nodes (ParentIn (tree_of nodes)) (λ n. refl) tied.parents)

    names_then : Each (λ n. n.names) (NamesIn then) after
    names_then = each_changed (λ n. n.names) ino (named above names) between (NamesIn (tree_of nodes)) (NamesIn then)
        (λ n found h. more ∙ one_more (name_count (tree_of nodes) ino) true ∙ ap (λ b. weight b + name_count (tree_of nodes) ino) (sym (same_key_itself ino)) ∙ sym (names_with (tree_of nodes) dir name ino ino free))
        (λ q c other h. h ∙ no_weight (same_key q ino) _ other ∙ sym (names_with (tree_of nodes) dir name ino q free))
        (each_kept (λ n. n.names) dir (entered name ino subdirs) nodes (NamesIn (tree_of nodes)) (λ n. refl) tied.names)

    subdirs_then : Each (λ n. n.subdirs) (SubdirsIn then) after
    subdirs_then = each_kept (λ n. n.subdirs) ino (named above names) between (SubdirsIn then) (λ n. refl)
        (each_changed (λ n. n.subdirs) dir (entered name ino subdirs) nodes (SubdirsIn (tree_of nodes)) (SubdirsIn then)
        (λ n found h. counted ∙ one_more (subdirectory_count (tree_of nodes) dir) (is_directory (inode_at (tree_of nodes) ino)) ∙ ap (λ b. weight (b && is_directory (inode_at (tree_of nodes) ino)) + subdirectory_count (tree_of nodes) dir) (sym (same_key_itself dir)) ∙ sym (subdirs_with (tree_of nodes) dir name ino dir free))
        (λ q s other h. h ∙ no_weight (same_key q dir && is_directory (inode_at (tree_of nodes) ino)) _ (ap (λ b. b && is_directory (inode_at (tree_of nodes) ino)) other) ∙ sym (subdirs_with (tree_of nodes) dir name ino q free))
        tied.subdirs)

    tied-linked : IsTied after
    tied-linked = tied_by after then tree_of-linked (sound_then, parents_then, names_then, subdirs_then)

-- what `link` leaves of the inodes
linked : (nodes : List (Key × Node)) → IsTied nodes → (t : Tree) → tree_of nodes ≡ t → (dir : Key) (name : List ℕ) (ino : Key) → true ≡ may_link t dir name ino
    → (subdirs names : ℕ) (above : Option Key) → subdirs ≡ one_more_if (subdirectory_count t dir) (is_directory (inode_at t ino)) → names ≡ one_more_if (name_count t ino) true → above ≡ cond (is_directory (inode_at t ino)) (Some dir) None
    → (after : List (Key × Node)) → after ≡ at_node (at_node nodes dir (entered name ino subdirs)) ino (named above names)
    → (tree_of after ≡ cond (may_link t dir name ino) (with_name t dir name ino) t) × IsTied after
linked nodes tied t seen dir name ino may subdirs names above counted more up after left =
    subst (λ (u : Tree). true ≡ may_link u dir name ino → subdirs ≡ one_more_if (subdirectory_count u dir) (is_directory (inode_at u ino)) → names ≡ one_more_if (name_count u ino) true → above ≡ cond (is_directory (inode_at u ino)) (Some dir) None → (tree_of after ≡ cond (may_link u dir name ino) (with_name u dir name ino) u) × IsTied after) seen
    (λ may counted more up. (
      ap tree_of left ∙ tree_of-linked nodes tied dir name ino (sym may) subdirs names above counted more up ∙ ap (λ b. cond b (with_name (tree_of nodes) dir name ino) (tree_of nodes)) may,
      subst (λ (ns : List (Key × Node)). IsTied ns) (sym left) (tied-linked nodes tied dir name ino (sym may) subdirs names above counted more up),
    ))
    may counted more up

-- the same, by what is noted
pub linked_by : (nodes : List (Key × Node)) → IsTied nodes → (t : Tree) → tree_of nodes ≡ t → (dir : Key) (name : List ℕ) (ino : Key)
    → (o : Option Linked) → is_some o ≡ may_link t dir name ino → IfSome o (IsLinked t dir ino) → (l : Linked) → o ≡ Some l
    → (after : List (Key × Node)) → after ≡ at_node (at_node nodes dir (entered name ino l.subdirs)) ino (named l.parent l.names)
    → (tree_of after ≡ cond (may_link t dir name ino) (with_name t dir name ino) t) × IsTied after
linked_by nodes tied t seen dir name ino o may counts l is after left =
    let c : IsLinked t dir ino l = subst (λ p. IfSome p (IsLinked t dir ino)) is counts in
    linked nodes tied t seen dir name ino (sym (ap is_some is) ∙ may) l.subdirs l.names l.parent c.subdirs c.names c.parent after left
