-- What an operation leaves of the names and of the contents is what it leaves of the tree.
use Rattle.std.proofs.Common.{◌≡◌, ℕ, List, Option, Some, None, Bool, true, false, cond, ◌&&◌, Result, Ok, Err, OnOk, OnErr, Bor, is_some, option_map, count_by, refl, sym, ap, ◌∙◌, subst}
use Rattle.std.specs.Option.{option_copied, option_map_or}
use Rattle.std.specs.FinMap.Entries.{find as value_at, put, is_sorted}
use Rattle.ivy_base.specs.declared.key.Key.{Key}
use Rattle.ivy_base.specs.declared.operation.Kind.{Kind}
use Rattle.ivy_base.specs.declared.operation.Moment.{Moment}
use Rattle.ivy_base.specs.declared.operation.Change.{Change}
use Rattle.ivy_base.specs.declared.operation.Op.{Op}
use Rattle.ivy_base.specs.declared.operation.Op.TheVariants as op
use Rattle.ivy_base.specs.Naming.{key_cmp}
use Rattle.tree_model.specs.Tree.{Tree, Inode, IsInOrder, inode_at, entry, is_directory, same_key, subdirectory_count}
use Rattle.tree_model.specs.Apply.{apply, at_inode, changed_inode, may_link, may_lose_name, touched, with_inode, with_name, without_name}
use Rattle.tree_model.specs.Sound.{IsSound}
use Rattle.tree_model.proofs.Applied.{link_tests, sound_apply}
use Rattle.tree_model.proofs.Keys.{keys_total}
use Rattle.dir_replay.specs.declared.touched.Touched.{Touched}
use Rattle.dir_replay.specs.Bare.{bare}
use Rattle.dir_replay.specs.Effect.{directories, none_touched, touched_by, names_after, is_effective, IsOfNames, touched_at}
use Rattle.dir_replay.proofs.Bare.{sound-bare, sound_if_bare, bare-at_inode, is_directory-bare, touched_by-bare}
use Rattle.dir_replay.proofs.Effects.{apply_names_is, bare-apply, inodes_kept}
use Rattle.dir_replay.proofs.Sorted.{put_same}
use Rattle.inode_replay.specs.Contents.{made, changed, touched_inode}
use Rattle.inode_replay.specs.Kept.{Kept, made_kept, touched_kept}
use Rattle.inode_replay.proofs.Applied.{inode-free, inode-used, made-inode, write-at, attributes-at}
use Rattle.fs_tree.specs.Applicable.{IsInOne}
use Rattle.fs_tree.specs.Contents.{at_content, changed_content, touched_content, IsContentEditedAt, IsContentEdited}
use Rattle.fs_tree.specs.View.{tree_of}
use Rattle.fs_tree.specs.Tied.{IsTied}

-- ---- what is left of the inodes

inodes-touched : (now : Moment) (d : Option Key) (t : Tree) → (touched_at now d t).inodes ≡ touched_content now d t.inodes
inodes-touched now None t = refl
inodes-touched now (Some dir) t = by (inode_at t dir)
  where
    by : (o : Option Inode) → (changed_inode t dir o (touched_inode now)).inodes ≡ changed_content t.inodes dir o (touched_inode now)
    by None = refl
    by (Some i) = refl

inodes-apply : (t : Tree) → is_sorted key_cmp t.inodes ≡ true → (now : Moment) (o : Op) → IsOfNames o → (apply t now o).inodes ≡ touched_content now (touched_by t o).second (touched_content now (touched_by t o).first t.inodes)
inodes-apply t order now o of =
    ap (λ (u : Tree). u.inodes) (apply_names_is t order now o of)
    ∙ inodes-touched now (touched_by t o).second (touched_at now (touched_by t o).first (names_after t o))
    ∙ ap (λ l. touched_content now (touched_by t o).second l) (inodes-touched now (touched_by t o).first (names_after t o) ∙ ap (λ l. touched_content now (touched_by t o).first l) (inodes_kept t o))

-- ---- both halves

module _ (names : Tree) (contents : List (Key × Inode)) (tied : IsTied names contents) where
  abbrev whole : Tree
  whole = tree_of names contents

  joined : (now : Moment) (o : Op) (new : Tree) (left : List (Key × Inode)) → new ≡ bare (apply whole now o) → left ≡ (apply whole now o).inodes → (tree_of new left ≡ apply whole now o) × IsTied new left
  joined now o new left names_are contents_are =
      let is : tree_of new left ≡ apply whole now o = λ i. record { names = ap (λ (u : Tree). u.names) names_are i; inodes = contents_are i } in
      (is, record { sound = subst (λ (u : Tree). IsSound u) (sym is) (sound_apply whole tied.sound now o); same = ap bare is ∙ sym names_are })

  names_whole : (now : Moment) (o : Op) → bare (apply names now o) ≡ bare (apply whole now o)
  names_whole now o = ap (λ (u : Tree). bare (apply u now o)) (sym tied.same) ∙ sym (bare-apply whole tied.sound now now o)

  -- other names, and the times of the directories that were touched, both on copies
  pub names_changed : (now : Moment) (o : Op) → IsOfNames o → (names_copied : Tree) → names_copied ≡ names → (copied : List (Key × Inode)) → copied ≡ contents → (new : Tree) → new ≡ bare (apply names_copied now o) → (dirs : Touched) → dirs ≡ touched_by names_copied o → (between left : List (Key × Inode)) → between ≡ touched_content now dirs.first copied → left ≡ touched_content now dirs.second between → (tree_of new left ≡ apply whole now o) × IsTied new left
  names_changed now o of names_copied same_names copied same_contents new names_are dirs dirs_are between left first second =
      joined now o new left (names_are ∙ ap (λ (u : Tree). bare (apply u now o)) same_names ∙ names_whole now o) (
      second ∙ ap (λ l. touched_content now dirs.second l) (first ∙ ap (λ l. touched_content now dirs.first l) same_contents)
      ∙ ap (λ (d : Touched). touched_content now d.second (touched_content now d.first contents)) (dirs_are ∙ ap (λ (u : Tree). touched_by u o) (same_names ∙ sym tied.same) ∙ touched_by-bare whole o)
      ∙ sym (inodes-apply whole tied.sound.order.inodes now o of)
      )

  -- ---- names in one directory

  of_names : (dir : Key) (o : Op) → IsInOne dir o → IsOfNames o
  of_names dir (op.Link d name number) h = tt
  of_names dir (op.Unlink d name) h = tt
  of_names dir (op.Rename d name to_dir to_name) h = absurd h
  of_names dir (op.Inode number kind mode uid gid target) h = absurd h
  of_names dir (op.Write number offset bytes) h = absurd h
  of_names dir (op.Prepare d name verifier) h = absurd h
  of_names dir (op.Cancel seq) h = absurd h
  of_names dir (op.SetAttrs number change) h = absurd h
  of_names dir op.End h = absurd h

  one_directory : (dir : Key) (o : Op) → IsInOne dir o → directories o ≡ record { first = Some dir; second = None }
  one_directory dir (op.Link d name number) h = λ i. record { first = Some (h i); second = None }
  one_directory dir (op.Unlink d name) h = λ i. record { first = Some (h i); second = None }
  one_directory dir (op.Rename d name to_dir to_name) h = absurd h
  one_directory dir (op.Inode number kind mode uid gid target) h = absurd h
  one_directory dir (op.Write number offset bytes) h = absurd h
  one_directory dir (op.Prepare d name verifier) h = absurd h
  one_directory dir (op.Cancel seq) h = absurd h
  one_directory dir (op.SetAttrs number change) h = absurd h
  one_directory dir op.End h = absurd h

  same_touched : (o : Op) → touched_by names o ≡ touched_by whole o
  same_touched o = ap (λ (u : Tree). touched_by u o) (sym tied.same) ∙ touched_by-bare whole o

  -- the times of that directory, set where its entries change
  times_set : (dir : Key) (now : Moment) (i : Inode) → value_at key_cmp dir contents ≡ Some i → (b : Bool) (dirs : Touched) → dirs ≡ record { first = Some dir; second = None }
      → put key_cmp dir (cond (is_some (cond b dirs none_touched).first) (touched_inode now i) i) contents ≡ touched_content now (cond b dirs none_touched).second (touched_content now (cond b dirs none_touched).first contents)
  times_set dir now i found true dirs one =
      ap (λ (d : Touched). put key_cmp dir (cond (is_some d.first) (touched_inode now i) i) contents) one
      ∙ sym (ap (λ o. changed_content contents dir o (touched_inode now)) found)
      ∙ sym (ap (λ (d : Touched). touched_content now d.second (touched_content now d.first contents)) one)
  times_set dir now i found false dirs one = put_same key_cmp keys_total dir i contents tied.sound.order.inodes found

  names_changed_in : (dir : Key) (now : Moment) (o : Op) → IsInOne dir o → (i j : Inode) → value_at key_cmp dir contents ≡ Some i → j ≡ cond (is_some (touched_by names o).first) (touched_inode now i) i
      → (new : Tree) → new ≡ bare (apply names now o) → (left : List (Key × Inode)) → left ≡ put key_cmp dir j contents → (tree_of new left ≡ apply whole now o) × IsTied new left
  names_changed_in dir now o within i j found touch new names_are left contents_are =
      joined now o new left (names_are ∙ names_whole now o) (
      contents_are ∙ ap (λ k. put key_cmp dir k contents) (touch ∙ ap (λ (d : Touched). cond (is_some d.first) (touched_inode now i) i) (same_touched o))
      ∙ times_set dir now i found (is_effective whole o) (directories o) (one_directory dir o within)
      ∙ sym (inodes-apply whole tied.sound.order.inodes now o (of_names dir o within))
      )

  absent : (dir d : Key) → d ≡ dir → value_at key_cmp dir contents ≡ None → is_directory (inode_at whole d) ≡ false
  absent dir d same none = ap (λ k. is_directory (inode_at whole k)) same ∙ ap is_directory none

  no_link : (d : Key) (name : List ℕ) (number : Key) → is_directory (inode_at whole d) ≡ false → (b : Bool) → may_link whole d name number ≡ b → b ≡ false
  no_link d name number none true may = let never : true ≡ false = sym (link_tests whole d name number may).directory ∙ none in absurd cc
  no_link d name number none false may = refl

  no_name : (d : Key) (name : List ℕ) → is_directory (inode_at whole d) ≡ false → (e : Option Key) → entry whole d name ≡ e → option_map_or (may_lose_name whole) e false ≡ false
  no_name d name none None is = refl
  no_name d name none (Some x) is = let never : true ≡ false = sym (tied.sound.in_directories (d, name) x is) ∙ none in absurd cc

  -- a directory that isn't there has no names, and gets none
  nothing_in : (dir : Key) (now : Moment) (o : Op) → IsInOne dir o → value_at key_cmp dir contents ≡ None → apply whole now o ≡ whole
  nothing_in dir now (op.Link d name number) h none =
      ap (λ b. cond b (touched now d (with_name whole d name number)) whole) (no_link d name number (absent dir d h none) (may_link whole d name number) refl)
  nothing_in dir now (op.Unlink d name) h none =
      ap (λ b. cond b (touched now d (without_name whole d name)) whole) (no_name d name (absent dir d h none) (entry whole d name) refl)
  nothing_in dir now (op.Rename d name to_dir to_name) h none = absurd h
  nothing_in dir now (op.Inode number kind mode uid gid target) h none = absurd h
  nothing_in dir now (op.Write number offset bytes) h none = absurd h
  nothing_in dir now (op.Prepare d name verifier) h none = absurd h
  nothing_in dir now (op.Cancel seq) h none = absurd h
  nothing_in dir now (op.SetAttrs number change) h none = absurd h
  nothing_in dir now op.End h none = absurd h

  inode_touched : (now : Moment) (k : Kept) (b : Bool) → (cond b (touched_kept now k) k).inode ≡ cond b (touched_inode now k.inode) k.inode
  inode_touched now k true = refl
  inode_touched now k false = refl

  -- an edit of that directory's content that changes the names too
  module _ (dir : Key) (now : Moment) (o : Op) (within : IsInOne dir o) {S : Type 0} (makes : S → Kept → S → Kept → Type 0) (edit after : S) (new : Tree) (left : List (Key × Inode)) (same : after ≡ edit → new ≡ names)
      (made_so : (k l : Kept) → makes edit k after l → (new ≡ bare (apply names now o)) × (l ≡ cond (is_some (touched_by names o).first) (touched_kept now k) k)) where
    edited_at : (v : Option Inode) → value_at key_cmp dir contents ≡ v → IsContentEditedAt makes dir edit after contents left v → (tree_of new left ≡ apply whole now o) × IsTied new left
    edited_at None none e =
        let is : tree_of new left ≡ whole = λ i. tree_of (same e.0 i) (e.1 i) in
        (is ∙ sym (nothing_in dir now o within none), subst (λ (u : Tree). IsTied u left) (sym (same e.0)) (subst (λ l. IsTied names l) (sym e.1) tied))
    edited_at (Some i) found e =
        let m = made_so e.0 e.1 e.3 in
        let touch : e.1.inode ≡ cond (is_some (touched_by names o).first) (touched_inode now i) i = ap (λ (k : Kept). k.inode) m.1 ∙ inode_touched now e.0 (is_some (touched_by names o).first) ∙ ap (λ x. cond (is_some (touched_by names o).first) (touched_inode now x) x) e.2 in
        names_changed_in dir now o within i e.1.inode found touch new m.0 left e.4

    -- both are changed, or neither is when out of memory
    pub directory_left : {A E : Type 0} (r : Result A E) → OnOk r (IsContentEdited makes dir edit after contents left) → OnErr r ((after ≡ edit) × (left ≡ contents)) → OnOk r (tree_of new left ≡ apply whole now o) × IsTied new left
    directory_left (Ok x) ok err = edited_at (value_at key_cmp dir contents) refl ok
    directory_left (Err e) ok err = (tt, subst (λ (u : Tree). IsTied u left) (sym (same err.0)) (subst (λ l. IsTied names l) (sym err.1) tied))

  -- another content of one inode
  pub content_changed : (number : Key) (f : Inode → Inode) → ((i : Inode) → (f i).kind ≡ i.kind) → (left : List (Key × Inode)) → left ≡ at_content contents number f → (tree_of names left ≡ at_inode whole number f) × IsTied names left
  content_changed number f kept left contents_are =
      let is : tree_of names left ≡ at_inode whole number f = ap (λ l. tree_of names l) contents_are ∙ by (value_at key_cmp number contents) in
      let same : bare (tree_of names left) ≡ names = ap bare is ∙ bare-at_inode whole number f tied.sound.order.inodes kept ∙ tied.same in
      let sound : IsSound names = subst (λ (u : Tree). IsSound u) tied.same (sound-bare whole tied.sound) in
      (is, record { sound = sound_if_bare (tree_of names left) (subst (λ (u : Tree). IsSound u) (sym same) sound); same = same })
    where
      by : (o : Option Inode) → tree_of names (changed_content contents number o f) ≡ changed_inode whole number o f
      by None = refl
      by (Some i) = refl

  -- a content of the same kind in place of one inode's
  content_tied : (number : Key) (j : Inode) → option_map (λ i. i.kind) (inode_at whole number) ≡ Some j.kind → (left : List (Key × Inode)) → left ≡ put key_cmp number j contents → IsTied names left
  content_tied number j kind left is = by (value_at key_cmp number contents) refl kind
    where
      of_kind : Kind → Inode
      of_kind k = record { kind = k; attributes = j.attributes; body = j.body }

      f : Inode → Inode
      f i = of_kind i.kind

      by : (o : Option Inode) → value_at key_cmp number contents ≡ o → option_map (λ i. i.kind) o ≡ Some j.kind → IsTied names left
      by None found same = cc
      by (Some i) found same =
          let kinds : j.kind ≡ i.kind = cc in
          (content_changed number f (λ i. refl) left (is ∙ ap (λ k. put key_cmp number (of_kind k) contents) kinds ∙ ap (λ o. changed_content contents number o f) (sym found))).1

  -- it stands there, or nothing has changed when out of memory
  pub content_put : (number : Key) (j : Inode) → option_map (λ i. i.kind) (inode_at whole number) ≡ Some j.kind → (left : List (Key × Inode)) → {A E : Type 0} (r : Result A E)
      → OnOk r (left ≡ put key_cmp number j contents) → OnErr r (left ≡ contents) → OnOk r (tree_of names left ≡ with_inode whole number j) × IsTied names left
  content_put number j kind left (Ok x) ok err = (ap (λ l. tree_of names l) ok, content_tied number j kind left ok)
  content_put number j kind left (Err e) ok err = (tt, subst (λ l. IsTied names l) (sym err) tied)

  pub content_sound : (number : Key) (j : Inode) → option_map (λ i. i.kind) (inode_at whole number) ≡ Some j.kind → (left : List (Key × Inode)) → {A E : Type 0} (r : Result A E)
      → OnOk r (left ≡ put key_cmp number j contents) → OnErr r (left ≡ contents) → OnOk r (IsSound (tree_of names left))
  content_sound number j kind left (Ok x) ok err = (content_tied number j kind left ok).sound
  content_sound number j kind left (Err e) ok err = tt

  -- a new inode
  module _ (now : Moment) (number : Key) (kind : Kind) (mode uid gid : ℕ) (target : List ℕ) (o : Op) (same : o ≡ op.Inode number kind mode uid gid target) where
    inode_added : (k : Kept) → made_kept now o ≡ Some k → value_at key_cmp number contents ≡ None → (new : Tree) → new ≡ bare (apply names now o) → (left : List (Key × Inode)) → left ≡ put key_cmp number k.inode contents → (tree_of new left ≡ apply whole now o) × IsTied new left
    inode_added k makes free new names_are left contents_are =
        joined now o new left (names_are ∙ names_whole now o) (
        contents_are ∙ ap (λ (u : Tree). u.inodes) (sym (inode-free whole now number kind mode uid gid target k.inode free (ap (made now) (sym same) ∙ made-inode now o k makes)))
        ∙ ap (λ (p : Op). (apply whole now p).inodes) (sym same)
        )

    -- both halves have it, or neither when out of memory
    pub inode_left : (k : Kept) → made_kept now o ≡ Some k → value_at key_cmp number contents ≡ None → (new : Tree) (left : List (Key × Inode)) {Made Same : Type 0} → (Made → new ≡ bare (apply names now o)) → (Same → new ≡ names)
        → {A E : Type 0} (r : Result A E) → OnOk r ((left ≡ put key_cmp number k.inode contents) × Made) → OnErr r ((left ≡ contents) × Same) → OnOk r (tree_of new left ≡ apply whole now o) × IsTied new left
    inode_left k makes free new left made_so same_so (Ok x) ok err = inode_added k makes free new (made_so ok.1) left ok.0
    inode_left k makes free new left made_so same_so (Err e) ok err = (tt, subst (λ (u : Tree). IsTied u left) (sym (same_so err.1)) (subst (λ l. IsTied names l) (sym err.0) tied))

    pub inode_there : (r : Option (Bor Kept)) → option_map (λ k. k.inode) (option_copied r) ≡ value_at key_cmp number contents → true ≡ is_some r → whole ≡ apply whole now o
    inode_there r found there = by r found there
      where
        by : (r : Option (Bor Kept)) → option_map (λ k. k.inode) (option_copied r) ≡ value_at key_cmp number contents → true ≡ is_some r → whole ≡ apply whole now o
        by None found there = cc
        by (Some k) found there = sym (inode-used whole now number kind mode uid gid target k.now.inode (sym found)) ∙ ap (λ (p : Op). apply whole now p) (sym same)

  pub subdirectories : (dir : Key) → subdirectory_count names dir ≡ subdirectory_count whole dir
  subdirectories dir = ap (λ (u : Tree). subdirectory_count u dir) (sym tied.same) ∙ λ i. count_by (λ e. same_key dir e.0.0 && is_directory-bare whole e.1 i) names.names

-- no inode of that number
pub is_free : (r : Option (Bor Kept)) (o : Option Inode) → option_map (λ k. k.inode) (option_copied r) ≡ o → false ≡ is_some r → o ≡ None
is_free None o found none = sym found
is_free (Some k) o found none = cc

-- ---- operations on one inode

onto : {A E : Type 0} {P Q : Type 0} (r : Result A E) → (P → Q) → OnOk r P → OnOk r Q
onto (Ok x) f h = f h
onto (Err e) f h = h

-- a content that was changed, or none when out of memory
pub content_left : (names : Tree) (contents : List (Key × Inode)) → IsTied names contents → (number : Key) (f : Inode → Inode) → ((i : Inode) → (f i).kind ≡ i.kind) → {A E : Type 0} (r : Result A E) (left : List (Key × Inode)) → OnOk r (left ≡ at_content contents number f) → OnErr r (left ≡ contents) → OnOk r (tree_of names left ≡ at_inode (tree_of names contents) number f) × IsTied names left
content_left names contents tied number f kept (Ok x) left ok err = content_changed names contents tied number f kept left ok
content_left names contents tied number f kept (Err e) left ok err = (tt, subst (λ l. IsTied names l) (sym err) tied)

module _ (t : Tree) (order : IsInOrder t) (now : Moment) (number : Key) (o : Op) {A E : Type 0} (r : Result A E) (new : Tree) (ends : OnOk r (new ≡ at_inode t number (changed now o))) where
  pub written_is : (offset : ℕ) (bytes : List ℕ) → o ≡ op.Write number offset bytes → OnOk r (new ≡ apply t now o)
  written_is offset bytes same = onto r (λ is. is ∙ ap (λ (p : Op). at_inode t number (changed now p)) same ∙ sym (write-at t order now number offset bytes) ∙ ap (λ (p : Op). apply t now p) (sym same)) ends

  pub attributes_are : (change : Change) → o ≡ op.SetAttrs number change → OnOk r (new ≡ apply t now o)
  attributes_are change same = onto r (λ is. is ∙ ap (λ (p : Op). at_inode t number (changed now p)) same ∙ sym (attributes-at t order now number change) ∙ ap (λ (p : Op). apply t now p) (sym same)) ends
