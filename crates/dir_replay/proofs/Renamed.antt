-- A name in another place.
use Rattle.std.proofs.Common.{◌≡◌, ℕ, ◌+◌, List, Option, Some, None, Bool, true, false, cond, not, ◌&&◌, count_by, is_some, is_none, refl, sym, ap, ◌∙◌, subst, arith}
use Rattle.std.specs.Option.{option_map_or}
use Rattle.std.specs.Ordering.{eq_by_cmp}
use Rattle.std.specs.FinMap.Entries.{find as value_at, find-put, is_sorted, is_sorted-put, is_sorted-where_key, same_entries}
use Rattle.ivy_base.specs.declared.key.Key.{Key}
use Rattle.ivy_base.specs.declared.operation.Op.TheVariants as op
use Rattle.ivy_base.specs.Naming.{key_cmp}
use Rattle.tree_model.specs.Tree.{Tree, Place, place_cmp, same_key, inode_at, entry, is_directory, is_inside, parent, name_count, subdirectory_count}
use Rattle.tree_model.specs.Apply.{same_bool, may_lose_name, may_replace, may_rename, with_name, without_name}
use Rattle.tree_model.specs.Sound.{Names, IsSound}
use Rattle.tree_model.proofs.Keys.{places_total, exact_places, same_key_itself, same_place_is}
use Rattle.tree_model.proofs.Sound.{both_true, directory_is_some, from_test, to_test}
use Rattle.dir_replay.specs.declared.nodes.Node.{Node}
use Rattle.dir_replay.specs.Counts.{less_one_if, one_more_if}
use Rattle.dir_replay.specs.Effect.{names_after, is_effective}
use Rattle.dir_replay.specs.Nodes.{at_node, entered, left, unnamed, any_unnamed, moved_to}
use Rattle.dir_replay.specs.View.{tree_of, all_names, all_inodes}
use Rattle.dir_replay.specs.Tied.{IsTied, directory_parent}
use Rattle.dir_replay.proofs.Sorted.{sorted_nodes}
use Rattle.dir_replay.proofs.Views.{inode_at-tree_of, some_node}
use Rattle.dir_replay.proofs.Counts.{weight}
use Rattle.dir_replay.proofs.Changes.{Each, each_kept, each_changed, sorted-at_node, kinds-at_node, names-at_node, names-entered, names-left, without}
use Rattle.dir_replay.proofs.Shown.{bare-tree_of}
use Rattle.dir_replay.proofs.Above.{parent_of_named, parent_kept}
use Rattle.dir_replay.proofs.Effects.{sound_after}
use Rattle.dir_replay.proofs.Unlinked.{nameless, without_parent}
use Rattle.dir_replay.proofs.Ties.{ParentIn, NamesIn, SubdirsIn, none_some, tied_by, one_more, one_less, no_weight, no_weight_behind, found_with, kept_with, find-without, kept_without, was_elsewhere, names_with, subdirs_with, names_replaced, subdirs_replaced, names_without, subdirs_without}

-- ---- without the name that is given up

sorted_any : (o : Option Key) (nodes : List (Key × Node)) → is_sorted key_cmp nodes ≡ true → is_sorted key_cmp (any_unnamed nodes o) ≡ true
sorted_any None nodes sorted = sorted
sorted_any (Some y) nodes sorted = sorted-at_node y unnamed nodes sorted

kinds_any : (o : Option Key) (nodes : List (Key × Node)) → is_sorted key_cmp nodes ≡ true → all_inodes (any_unnamed nodes o) ≡ all_inodes nodes
kinds_any None nodes sorted = refl
kinds_any (Some y) nodes sorted = kinds-at_node y unnamed (λ n. refl) nodes sorted

names_any : (o : Option Key) (nodes : List (Key × Node)) → is_sorted key_cmp nodes ≡ true → all_names (any_unnamed nodes o) ≡ all_names nodes
names_any None nodes sorted = refl
names_any (Some y) nodes sorted = names-at_node y unnamed (λ n. refl) nodes sorted

each_any : {A : Type 0} (g : Node → A) (P : Key → A → Type 0) → ((n : Node) → g (unnamed n) ≡ g n) → (o : Option Key) (nodes : List (Key × Node)) → Each g P nodes → Each g P (any_unnamed nodes o)
each_any g P kept None nodes each = each
each_any g P kept (Some y) nodes each = each_kept g y unnamed nodes P kept each

-- ---- numbers and tests

same_sum : (x m y w : ℕ) → x + w ≡ m → m ≡ w + y → x ≡ y
same_sum x m y w a b = omega arith

same_sum_less : (x m y w z : ℕ) → x + w ≡ m → m + z ≡ w + y → x + z ≡ y
same_sum_less x m y w z a b = omega arith

same_off : (m n w : ℕ) → m + w ≡ w + n → m ≡ n
same_off m n w h = omega arith

same_bools : (a b : Bool) → same_bool a b ≡ true → a ≡ b
same_bools true true h = refl
same_bools true false h = cc
same_bools false true h = cc
same_bools false false h = refl

and_true : (b : Bool) → (b && true) ≡ b
and_true true = refl
and_true false = refl

and_false : (b : Bool) → (b && false) ≡ false
and_false true = refl
and_false false = refl

negated : (b : Bool) → not b ≡ true → b ≡ false
negated true h = cc
negated false h = refl

abbrev is_target : Option Key → Key → Bool
is_target None q = false
is_target (Some y) q = same_key q y

module _ (nodes : List (Key × Node)) (tied : IsTied nodes) (dir : Key) (name : List ℕ) (moved to_dir : Key) (to_name : List ℕ) (found : entry (tree_of nodes) dir name ≡ Some moved) (o : Option Key) (at_target : entry (tree_of nodes) to_dir to_name ≡ o) (isd_to : is_directory (inode_at (tree_of nodes) to_dir) ≡ true) (replace : may_replace (tree_of nodes) moved o ≡ true) (effective : is_effective (tree_of nodes) (op.Rename dir name to_dir to_name) ≡ true) where
  abbrev mid : Tree
  mid = with_name (tree_of nodes) to_dir to_name moved

  abbrev then : Tree
  then = with_name (without_name (tree_of nodes) dir name) to_dir to_name moved

  after_is : names_after (tree_of nodes) (op.Rename dir name to_dir to_name) ≡ then
  after_is =
      ap (λ b. cond b (option_map_or (λ x. with_name (without_name (tree_of nodes) dir name) to_dir to_name x) (entry (tree_of nodes) dir name) (tree_of nodes)) (tree_of nodes)) effective
      ∙ ap (λ e. option_map_or (λ x. with_name (without_name (tree_of nodes) dir name) to_dir to_name x) e (tree_of nodes)) found

  sound_then : IsSound then
  sound_then = subst (λ (u : Tree). IsSound u) after_is (sound_after (tree_of nodes) tied.sound (bare-tree_of nodes) (op.Rename dir name to_dir to_name) tt)

  order : is_sorted place_cmp (tree_of nodes).names ≡ true
  order = tied.sound.order.names

  sorted_mid : is_sorted place_cmp mid.names ≡ true
  sorted_mid = to_test _ (is_sorted-put place_cmp places_total (to_dir, to_name) moved (tree_of nodes).names (from_test _ order))

  -- ---- the two places

  apart : (e : Option Key) → entry (tree_of nodes) to_dir to_name ≡ e → may_replace (tree_of nodes) moved e ≡ true → (b : Bool) → eq_by_cmp place_cmp (to_dir, to_name) (dir, name) ≡ b → b ≡ false
  apart e is may false other = refl
  apart e is may true same =
      let one : Some moved ≡ e = sym found ∙ ap (λ (p : Place). value_at place_cmp p (tree_of nodes).names) (sym (same_place_is (to_dir, to_name) (dir, name) same)) ∙ is in
      let test : may_replace (tree_of nodes) moved (Some moved) ≡ true = subst (λ (f : Option Key). may_replace (tree_of nodes) moved f ≡ true) (sym one) may in
      let no : not (same_key moved moved) ≡ true = (both_true (same_bool (is_directory (inode_at (tree_of nodes) moved)) (is_directory (inode_at (tree_of nodes) moved)) && may_lose_name (tree_of nodes) moved) (not (same_key moved moved)) test).1 in
      let never : true ≡ false = sym (same_key_itself moved) ∙ negated (same_key moved moved) no in absurd cc

  places_apart : eq_by_cmp place_cmp (to_dir, to_name) (dir, name) ≡ false
  places_apart = apart o at_target replace (eq_by_cmp place_cmp (to_dir, to_name) (dir, name)) refl

  commuted : without (dir, name) mid.names ≡ then.names
  commuted = same_entries place_cmp places_total exact_places (without (dir, name) mid.names) then.names
      (is_sorted-where_key place_cmp (λ q. not (eq_by_cmp place_cmp q (dir, name))) mid.names (from_test _ sorted_mid))
      (from_test _ sound_then.order.names)
      (λ p.
      find-without mid.names (dir, name) p
      ∙ ap (λ e. cond (not (eq_by_cmp place_cmp p (dir, name))) e None) (find-put place_cmp places_total p (to_dir, to_name) moved (tree_of nodes).names)
      ∙ by p (eq_by_cmp place_cmp p (to_dir, to_name)) refl (eq_by_cmp place_cmp p (dir, name)) refl (value_at place_cmp p (tree_of nodes).names)
      ∙ ap (cond (eq_by_cmp place_cmp p (to_dir, to_name)) (Some moved)) (sym (find-without (tree_of nodes).names (dir, name) p))
      ∙ sym (find-put place_cmp places_total p (to_dir, to_name) moved (without (dir, name) (tree_of nodes).names)))
    where
      by : (p : Place) (a : Bool) → eq_by_cmp place_cmp p (to_dir, to_name) ≡ a → (b : Bool) → eq_by_cmp place_cmp p (dir, name) ≡ b → (e : Option Key) → cond (not b) (cond a (Some moved) e) None ≡ cond a (Some moved) (cond (not b) e None)
      by p true to true from e =
          let same : eq_by_cmp place_cmp (to_dir, to_name) (dir, name) ≡ true = subst (λ (q : Place). eq_by_cmp place_cmp q (dir, name) ≡ true) (same_place_is p (to_dir, to_name) to) from in
          let never : true ≡ false = sym same ∙ places_apart in absurd cc
      by p true to false from e = refl
      by p false to true from e = refl
      by p false to false from e = refl

  found_mid : entry mid dir name ≡ Some moved
  found_mid = find-put place_cmp places_total (dir, name) (to_dir, to_name) moved (tree_of nodes).names ∙ by (eq_by_cmp place_cmp (dir, name) (to_dir, to_name))
    where
      by : (b : Bool) → cond b (Some moved) (entry (tree_of nodes) dir name) ≡ Some moved
      by true = refl
      by false = found

  -- ---- counts

  names_off : (q : Key) → name_count then q + weight (same_key q moved) ≡ name_count mid q
  names_off q = ap (λ names. count_by (λ e. same_key q e.1) names + weight (same_key q moved)) (sym commuted) ∙ names_without mid dir name moved q sorted_mid found_mid

  subdirs_off : (q : Key) → subdirectory_count then q + weight (same_key q dir && is_directory (inode_at (tree_of nodes) moved)) ≡ subdirectory_count mid q
  subdirs_off q = ap (λ names. count_by (λ e. same_key q e.0.0 && is_directory (inode_at (tree_of nodes) e.1)) names + weight (same_key q dir && is_directory (inode_at (tree_of nodes) moved))) (sym commuted) ∙ subdirs_without mid dir name moved q sorted_mid found_mid

  names_moved : (e : Option Key) → entry (tree_of nodes) to_dir to_name ≡ e → (q : Key) → name_count then q + weight (is_target e q) ≡ name_count (tree_of nodes) q
  names_moved None is q = no_weight_behind false (name_count then q) refl ∙ same_sum _ _ _ (weight (same_key q moved)) (names_off q) (names_with (tree_of nodes) to_dir to_name moved q is)
  names_moved (Some y) is q = same_sum_less _ _ _ (weight (same_key q moved)) (weight (same_key q y)) (names_off q) (names_replaced (tree_of nodes) to_dir to_name moved y q order is)

  names_then_is : (q : Key) → is_target o q ≡ false → name_count then q ≡ name_count (tree_of nodes) q
  names_then_is q other = sym (no_weight_behind (is_target o q) (name_count then q) other) ∙ names_moved o at_target q

  -- both are directories or neither is
  kinds_alike : (y : Key) → may_replace (tree_of nodes) moved (Some y) ≡ true → is_directory (inode_at (tree_of nodes) moved) ≡ is_directory (inode_at (tree_of nodes) y)
  kinds_alike y may =
      let a = same_bool (is_directory (inode_at (tree_of nodes) moved)) (is_directory (inode_at (tree_of nodes) y)) in
      let b = may_lose_name (tree_of nodes) y in
      let ab = both_true (a && b) (not (same_key moved y)) may in
      same_bools _ _ (both_true a b ab.0).0

  not_moved : (y : Key) → may_replace (tree_of nodes) moved (Some y) ≡ true → same_key moved y ≡ false
  not_moved y may = negated (same_key moved y) (both_true (same_bool (is_directory (inode_at (tree_of nodes) moved)) (is_directory (inode_at (tree_of nodes) y)) && may_lose_name (tree_of nodes) y) (not (same_key moved y)) may).1

  subdirs_mid_here : (e : Option Key) → entry (tree_of nodes) to_dir to_name ≡ e → may_replace (tree_of nodes) moved e ≡ true → one_more_if (subdirectory_count (tree_of nodes) to_dir) (is_directory (inode_at (tree_of nodes) moved) && is_none e) ≡ subdirectory_count mid to_dir
  subdirs_mid_here None is may =
      one_more (subdirectory_count (tree_of nodes) to_dir) (is_directory (inode_at (tree_of nodes) moved) && true)
      ∙ ap (λ b. weight b + subdirectory_count (tree_of nodes) to_dir) (and_true (is_directory (inode_at (tree_of nodes) moved)) ∙ ap (λ b. b && is_directory (inode_at (tree_of nodes) moved)) (sym (same_key_itself to_dir)))
      ∙ sym (subdirs_with (tree_of nodes) to_dir to_name moved to_dir is)
  subdirs_mid_here (Some y) is may =
      ap (one_more_if (subdirectory_count (tree_of nodes) to_dir)) (and_false (is_directory (inode_at (tree_of nodes) moved)))
      ∙ sym (same_off (subdirectory_count mid to_dir) (subdirectory_count (tree_of nodes) to_dir) (weight (same_key to_dir to_dir && is_directory (inode_at (tree_of nodes) moved)))
      (ap (λ b. subdirectory_count mid to_dir + weight (same_key to_dir to_dir && b)) (kinds_alike y may) ∙ subdirs_replaced (tree_of nodes) to_dir to_name moved y to_dir order is))

  subdirs_mid_there : (e : Option Key) → entry (tree_of nodes) to_dir to_name ≡ e → (q : Key) → same_key q to_dir ≡ false → subdirectory_count (tree_of nodes) q ≡ subdirectory_count mid q
  subdirs_mid_there None is q other =
      no_weight (same_key q to_dir && is_directory (inode_at (tree_of nodes) moved)) _ (ap (λ b. b && is_directory (inode_at (tree_of nodes) moved)) other)
      ∙ sym (subdirs_with (tree_of nodes) to_dir to_name moved q is)
  subdirs_mid_there (Some y) is q other =
      no_weight (same_key q to_dir && is_directory (inode_at (tree_of nodes) moved)) _ (ap (λ b. b && is_directory (inode_at (tree_of nodes) moved)) other)
      ∙ sym (subdirs_replaced (tree_of nodes) to_dir to_name moved y q order is)
      ∙ no_weight_behind (same_key q to_dir && is_directory (inode_at (tree_of nodes) y)) _ (ap (λ b. b && is_directory (inode_at (tree_of nodes) y)) other)

  -- ---- parents

  not_target : (e : Option Key) (q : Key) → is_target e q ≡ false → e ≡ Some q → ⊥
  not_target None q other is = none_some None q refl is
  not_target (Some y) q other is =
      let same : y ≡ q = cc in
      let never : true ≡ false = sym (same_key_itself q) ∙ subst (λ (k : Key). same_key q k ≡ false) same other in absurd cc

  unchanged_parent : (q : Key) → same_key q moved ≡ false → is_target o q ≡ false → directory_parent (tree_of nodes) q ≡ directory_parent then q
  unchanged_parent q other free = parent_kept (tree_of nodes) then tied.sound sound_then q refl (names_then_is q free)
      (λ p named. kept_with (without (dir, name) (tree_of nodes).names) (to_dir, to_name) moved p q
      (λ h. not_target o q free (sym at_target ∙ (was_elsewhere (tree_of nodes).names (dir, name) (to_dir, to_name) q h).1))
      (kept_without (tree_of nodes).names (dir, name) p moved q found other named))

  new_parent : (b : Bool) → is_directory (inode_at (tree_of nodes) moved) ≡ b → cond b (Some to_dir) None ≡ directory_parent then moved
  new_parent true isd = sym (ap (λ b. cond b (parent then moved) None) isd ∙ parent_of_named then sound_then moved (to_dir, to_name) isd (found_with (without (dir, name) (tree_of nodes).names) (to_dir, to_name) moved))
  new_parent false other = sym (ap (λ b. cond b (parent then moved) None) other)

  replaced_elsewhere : (y : Key) → same_key moved y ≡ false → (p : Place) → Names then p y → (eq_by_cmp place_cmp p (to_dir, to_name) ≡ false) × (value_at place_cmp p (tree_of nodes).names ≡ Some y)
  replaced_elsewhere y other p named = by (eq_by_cmp place_cmp p (to_dir, to_name)) (sym (find-put place_cmp places_total p (to_dir, to_name) moved (without (dir, name) (tree_of nodes).names)) ∙ named)
    where
      by : (b : Bool) → cond b (Some moved) (value_at place_cmp p (without (dir, name) (tree_of nodes).names)) ≡ Some y → (b ≡ false) × (value_at place_cmp p (tree_of nodes).names ≡ Some y)
      by true h =
          let is : moved ≡ y = cc in
          let never : true ≡ false = sym (same_key_itself y) ∙ subst (λ (k : Key). same_key k y ≡ false) is other in absurd cc
      by false h = (refl, (was_elsewhere (tree_of nodes).names (dir, name) p y h).1)

  no_parent : (y : Key) → entry (tree_of nodes) to_dir to_name ≡ Some y → same_key moved y ≡ false → None ≡ directory_parent then y
  no_parent y is other = without_parent (tree_of nodes) then tied.sound sound_then y refl
      (λ isd. nameless (tree_of nodes) tied.sound then.names (to_dir, to_name) y isd is (replaced_elsewhere y other))

  -- ---- what is kept

  abbrev ParentUnlessMoved : Key → Option Key → Type 0
  ParentUnlessMoved q above = same_key q moved ≡ false → above ≡ directory_parent then q

  parents_any : (e : Option Key) → entry (tree_of nodes) to_dir to_name ≡ e → may_replace (tree_of nodes) moved e ≡ true → ((q : Key) → same_key q moved ≡ false → is_target e q ≡ false → directory_parent (tree_of nodes) q ≡ directory_parent then q) → (ns : List (Key × Node)) → Each (λ n. n.parent) (ParentIn (tree_of nodes)) ns → Each (λ n. n.parent) ParentUnlessMoved (any_unnamed ns e)
  parents_any None is may kept ns each = λ q n at other. each q n at ∙ kept q other refl
  parents_any (Some y) is may kept ns each = each_changed (λ n. n.parent) y unnamed ns (ParentIn (tree_of nodes)) ParentUnlessMoved
      (λ n at h other. no_parent y is (not_moved y may))
      (λ q above free h other. h ∙ kept q other free)
      each

  names_any_then : (e : Option Key) → entry (tree_of nodes) to_dir to_name ≡ e → (ns : List (Key × Node)) → Each (λ n. n.names) (NamesIn (tree_of nodes)) ns → Each (λ n. n.names) (NamesIn then) (any_unnamed ns e)
  names_any_then None is ns each = λ q n at. each q n at ∙ sym (names_moved None is q) ∙ no_weight_behind false (name_count then q) refl
  names_any_then (Some y) is ns each = each_changed (λ n. n.names) y unnamed ns (NamesIn (tree_of nodes)) (NamesIn then)
      (λ n at h. ap (λ c. less_one_if c true) h ∙ one_less (name_count (tree_of nodes) y) (name_count then y) true (ap (λ b. name_count then y + weight b) (sym (same_key_itself y)) ∙ names_moved (Some y) is y))
      (λ q c other h. h ∙ sym (names_moved (Some y) is q) ∙ no_weight_behind (same_key q y) (name_count then q) other)
      each

  module _ (subdirs : ℕ) (counted : subdirs ≡ one_more_if (subdirectory_count (tree_of nodes) to_dir) (is_directory (inode_at (tree_of nodes) moved) && is_none o)) (directory : Bool) (isd : directory ≡ is_directory (inode_at (tree_of nodes) moved)) (above : Option Key) (up : above ≡ cond directory (Some to_dir) None) where
    abbrev first : List (Key × Node)
    first = at_node nodes to_dir (entered to_name moved subdirs)

    abbrev second : List (Key × Node)
    second = any_unnamed first o

    abbrev third : List (Key × Node)
    third = at_node second dir (left name directory)

    abbrev after : List (Key × Node)
    after = at_node third moved (moved_to above)

    sorted : is_sorted key_cmp nodes ≡ true
    sorted = sorted_nodes nodes tied

    sorted_first : is_sorted key_cmp first ≡ true
    sorted_first = sorted-at_node to_dir (entered to_name moved subdirs) nodes sorted

    sorted_second : is_sorted key_cmp second ≡ true
    sorted_second = sorted_any o first sorted_first

    sorted_third : is_sorted key_cmp third ≡ true
    sorted_third = sorted-at_node dir (left name directory) second sorted_second

    at_to_dir : (n : Node) × (value_at key_cmp to_dir nodes ≡ Some n)
    at_to_dir = some_node _ (ap is_some (sym (inode_at-tree_of nodes to_dir)) ∙ directory_is_some _ isd_to)

    tree_of-renamed : tree_of after ≡ then
    tree_of-renamed = λ i. record {
      names = (names-at_node moved (moved_to above) (λ n. refl) third sorted_third ∙ names-left dir name directory second sorted_second ∙ ap (without (dir, name)) (names_any o first sorted_first ∙ names-entered to_dir to_name moved subdirs at_to_dir.0 nodes sorted at_to_dir.1) ∙ commuted) i;
      inodes = (kinds-at_node moved (moved_to above) (λ n. refl) third sorted_third ∙ kinds-at_node dir (left name directory) (λ n. refl) second sorted_second ∙ kinds_any o first sorted_first ∙ kinds-at_node to_dir (entered to_name moved subdirs) (λ n. refl) nodes sorted) i;
    }

    parents_then : Each (λ n. n.parent) (ParentIn then) after
    parents_then = each_changed (λ n. n.parent) moved (moved_to above) third ParentUnlessMoved (ParentIn then)
        (λ n at h. up ∙ ap (λ b. cond b (Some to_dir) None) isd ∙ new_parent (is_directory (inode_at (tree_of nodes) moved)) refl)
        (λ q a other h. h other)
        (each_kept (λ n. n.parent) dir (left name directory) second ParentUnlessMoved (λ n. refl)
        (parents_any o at_target replace unchanged_parent first
        (each_kept (λ n. n.parent) to_dir (entered to_name moved subdirs) nodes (ParentIn (tree_of nodes)) (λ n. refl) tied.parents)))

    names_then : Each (λ n. n.names) (NamesIn then) after
    names_then = each_kept (λ n. n.names) moved (moved_to above) third (NamesIn then) (λ n. refl)
        (each_kept (λ n. n.names) dir (left name directory) second (NamesIn then) (λ n. refl)
        (names_any_then o at_target first
        (each_kept (λ n. n.names) to_dir (entered to_name moved subdirs) nodes (NamesIn (tree_of nodes)) (λ n. refl) tied.names)))

    subdirs_then : Each (λ n. n.subdirs) (SubdirsIn then) after
    subdirs_then = each_kept (λ n. n.subdirs) moved (moved_to above) third (SubdirsIn then) (λ n. refl)
        (each_changed (λ n. n.subdirs) dir (left name directory) second (SubdirsIn mid) (SubdirsIn then)
        (λ n at h. ap (λ c. less_one_if c directory) h ∙ one_less (subdirectory_count mid dir) (subdirectory_count then dir) directory (ap (λ b. subdirectory_count then dir + weight b) (isd ∙ ap (λ b. b && is_directory (inode_at (tree_of nodes) moved)) (sym (same_key_itself dir))) ∙ subdirs_off dir))
        (λ q s other h. h ∙ sym (subdirs_off q) ∙ no_weight_behind (same_key q dir && is_directory (inode_at (tree_of nodes) moved)) _ (ap (λ b. b && is_directory (inode_at (tree_of nodes) moved)) other))
        (each_any (λ n. n.subdirs) (SubdirsIn mid) (λ n. refl) o first
        (each_changed (λ n. n.subdirs) to_dir (entered to_name moved subdirs) nodes (SubdirsIn (tree_of nodes)) (SubdirsIn mid)
        (λ n at h. counted ∙ subdirs_mid_here o at_target replace)
        (λ q s other h. h ∙ subdirs_mid_there o at_target q other)
        tied.subdirs)))

    tied-renamed : IsTied after
    tied-renamed = tied_by after then tree_of-renamed (sound_then, parents_then, names_then, subdirs_then)

-- ---- what `enter`, `unname_any`, `leave` and then `set_parent` leave of a copy

pub renamed : (nodes : List (Key × Node)) → IsTied nodes → (t : Tree) → tree_of nodes ≡ t → (dir : Key) (name : List ℕ) (moved to_dir : Key) (to_name : List ℕ) → Some moved ≡ entry t dir name → true ≡ may_rename t moved to_dir to_name
    → (o : Option Key) → o ≡ entry t to_dir to_name → (directory : Bool) → directory ≡ is_directory (inode_at t moved) → (subdirs : ℕ) → subdirs ≡ one_more_if (subdirectory_count t to_dir) (is_directory (inode_at t moved) && is_none o)
    → (above : Option Key) → above ≡ cond directory (Some to_dir) None
    → (copy first second third after : List (Key × Node)) → copy ≡ nodes → first ≡ at_node copy to_dir (entered to_name moved subdirs) → second ≡ any_unnamed first o → third ≡ at_node second dir (left name directory) → after ≡ at_node third moved (moved_to above)
    → (tree_of after ≡ names_after t (op.Rename dir name to_dir to_name)) × IsTied after
renamed nodes tied t seen dir name moved to_dir to_name found may o at_target directory isd subdirs counted above up copy first second third after same entering unnaming leaving moving =
    subst (λ (u : Tree). Some moved ≡ entry u dir name → true ≡ may_rename u moved to_dir to_name → o ≡ entry u to_dir to_name → directory ≡ is_directory (inode_at u moved) → subdirs ≡ one_more_if (subdirectory_count u to_dir) (is_directory (inode_at u moved) && is_none o) → (tree_of after ≡ names_after u (op.Rename dir name to_dir to_name)) × IsTied after) seen
    (λ found may at_target isd counted.
    let a = is_directory (inode_at (tree_of nodes) to_dir) in
    let b = may_replace (tree_of nodes) moved (entry (tree_of nodes) to_dir to_name) in
    let abc = both_true (a && b) (not (is_inside (tree_of nodes) to_dir moved)) (sym may) in
    let ab = both_true a b abc.0 in
    let replace : may_replace (tree_of nodes) moved o ≡ true = ap (may_replace (tree_of nodes) moved) at_target ∙ ab.1 in
    let effective : is_effective (tree_of nodes) (op.Rename dir name to_dir to_name) ≡ true = ap (λ e. option_map_or (λ x. may_rename (tree_of nodes) x to_dir to_name) e false) (sym found) ∙ sym may in
    let is : after ≡ at_node (at_node (any_unnamed (at_node nodes to_dir (entered to_name moved subdirs)) o) dir (left name directory)) moved (moved_to above) =
    moving ∙ ap (λ ns. at_node ns moved (moved_to above)) (leaving ∙ ap (λ ns. at_node ns dir (left name directory)) (unnaming ∙ ap (λ ns. any_unnamed ns o) (entering ∙ ap (λ ns. at_node ns to_dir (entered to_name moved subdirs)) same))) in (
      ap tree_of is ∙ tree_of-renamed nodes tied dir name moved to_dir to_name (sym found) o (sym at_target) ab.0 replace effective subdirs counted directory isd above up
          ∙ sym (after_is nodes tied dir name moved to_dir to_name (sym found) o (sym at_target) ab.0 replace effective),
      subst (λ (ns : List (Key × Node)). IsTied ns) (sym is) (tied-renamed nodes tied dir name moved to_dir to_name (sym found) o (sym at_target) ab.0 replace effective subdirs counted directory isd above up),
    ))
    found may at_target isd counted
