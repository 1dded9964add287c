-- Each operation keeps a tree sound, and so every list of them makes a sound tree.
use Rattle.std.proofs.Common.{◌≡◌, ℕ, List, [], ◌∷◌, Option, Some, None, Bool, true, false, cond, not, ◌&&◌, ◌||◌, refl, sym, ap, ◌∙◌, subst, is_some, is_none}
use Rattle.std.specs.Option.{option_map_or}
use Rattle.std.specs.Ordering.{eq_by_cmp}
use Rattle.std.specs.FinMap.Entries.{find as value_at, find-where_key, put, where_key, is_sorted, is_sorted-put, is_sorted-where_key}
use Rattle.ivy_base.specs.declared.key.Key.{Key}
use Rattle.ivy_base.specs.declared.operation.Moment.{Moment}
use Rattle.ivy_base.specs.declared.operation.Op.{Op}
use Rattle.ivy_base.specs.declared.operation.Op.TheVariants as op
use Rattle.ivy_base.specs.Naming.{root_number, key_cmp}
use Rattle.tree_model.specs.Tree.{Tree, Inode, Place, place_cmp, same_key, inode_at, entry, is_directory, is_file, directory_kind, has_name, is_inside}
use Rattle.tree_model.specs.Apply.{empty_tree, with_inode, changed_inode, at_inode, set_attributes, touched, with_name, without_name, may_link, link, may_lose_name, unlink, may_replace, may_rename, move, apply, apply_all}
use Rattle.tree_model.specs.Sound.{IsSound, RecordsMakeSoundTrees}
use Rattle.tree_model.proofs.Keys.{keys_total, same_key_is, same_key_itself, same_place_itself, exact_places}
use Rattle.tree_model.proofs.Names.{inode_at-with_inode}
use Rattle.tree_model.proofs.Sound.{MayBeNamed, sound_named, sound_fewer, sound_kinds, both_true, both_false, not_and, no_name, not_inside, IsInside-fewer, from_test, to_test}

sound_if : (b : Bool) (x y : Tree) → (b ≡ true → IsSound x) → IsSound y → IsSound (cond b x y)
sound_if true x y f g = f refl
sound_if false x y f g = g

-- ---- inodes

sorted_inodes : (number : Key) (i : Inode) (inodes : List (Key × Inode)) → is_sorted key_cmp inodes ≡ true → is_sorted key_cmp (put key_cmp number i inodes) ≡ true
sorted_inodes number i inodes h = to_test _ (is_sorted-put key_cmp keys_total number i inodes (from_test _ h))

kind_there : (b : Bool) (i j : Inode) (o : Option Inode) → (b ≡ true → o ≡ Some i) → directory_kind j.kind ≡ directory_kind i.kind → is_directory (cond b (Some j) o) ≡ is_directory o
kind_there true i j o at same = same ∙ sym (ap is_directory (at refl))
kind_there false i j o at same = refl

some_there : (b : Bool) (j : Inode) (o : Option Inode) → is_some o ≡ true → is_some (cond b (Some j) o) ≡ true
some_there true j o h = refl
some_there false j o h = h

sound_changed : (t : Tree) → IsSound t → (number : Key) (f : Inode → Inode) → ((i : Inode) → directory_kind (f i).kind ≡ directory_kind i.kind) → (o : Option Inode) → inode_at t number ≡ o → IsSound (changed_inode t number o f)
sound_changed t s number f kept None e = s
sound_changed t s number f kept (Some i) e = sound_kinds t s (put key_cmp number (f i) t.inodes) (sorted_inodes number (f i) t.inodes s.order.inodes) (record {
  directories = λ k there. ap is_directory (inode_at-with_inode t number (f i) k) ∙ kind_there (same_key k number) i (f i) (inode_at t k) (λ tied. ap (inode_at t) (same_key_is k number tied) ∙ e) (kept i);
  some = λ k there. ap is_some (inode_at-with_inode t number (f i) k) ∙ some_there (same_key k number) (f i) (inode_at t k) there;
})

sound_at_inode : (t : Tree) → IsSound t → (number : Key) (f : Inode → Inode) → ((i : Inode) → directory_kind (f i).kind ≡ directory_kind i.kind) → IsSound (at_inode t number f)
sound_at_inode t s number f kept = sound_changed t s number f kept (inode_at t number) refl

sound_touched : (now : Moment) (dir : Key) (t : Tree) → IsSound t → IsSound (touched now dir t)
sound_touched now dir t s = sound_at_inode t s dir _ (λ i. refl)

-- a new inode: no inode was there
other_key : (t : Tree) (number k : Key) → inode_at t number ≡ None → is_some (inode_at t k) ≡ true → (b : Bool) → same_key k number ≡ b → b ≡ false
other_key t number k none some true e = let h : inode_at t k ≡ None = ap (inode_at t) (same_key_is k number e) ∙ none in let g : is_some (inode_at t k) ≡ false = ap is_some h in cc
other_key t number k none some false e = refl

pub sound_with_new : (t : Tree) → IsSound t → (number : Key) (i : Inode) → inode_at t number ≡ None → IsSound (with_inode t number i)
sound_with_new t s number i none = sound_kinds t s (put key_cmp number i t.inodes) (sorted_inodes number i t.inodes s.order.inodes) (record {
  directories = λ k there. ap is_directory (inode_at-with_inode t number i k) ∙ ap (λ b. is_directory (cond b (Some i) (inode_at t k))) (other_key t number k none there (same_key k number) refl);
  some = λ k there. ap is_some (inode_at-with_inode t number i k) ∙ some_there (same_key k number) i (inode_at t k) there;
})

pub none_if : (o : Option Inode) → is_some o ≡ false → o ≡ None
none_if None h = refl
none_if (Some i) h = cc

sound_new : (t : Tree) → IsSound t → (number : Key) (i : Inode) (b : Bool) → is_some (inode_at t number) ≡ b → IsSound (cond b t (with_inode t number i))
sound_new t s number i true e = s
sound_new t s number i false e = sound_with_new t s number i (none_if _ e)

-- ---- names

pub no_root : (number : Key) → not (same_key number root_number) ≡ true → number ≡ root_number → ⊥
no_root number h e = let g : same_key number root_number ≡ true = subst (λ (y : Key). same_key y root_number ≡ true) (sym e) (same_key_itself root_number) in cc

pub record LinkTests (t : Tree) (dir : Key) (name : List ℕ) (number : Key) : Type 0 where
  pub directory : is_directory (inode_at t dir) ≡ true
  pub exists : is_some (inode_at t number) ≡ true
  pub free : is_none (entry t dir name) ≡ true
  pub no_root : not (same_key number root_number) ≡ true
  pub outside : not (is_directory (inode_at t number) && (has_name t number || is_inside t dir number)) ≡ true

pub link_tests : (t : Tree) (dir : Key) (name : List ℕ) (number : Key) → may_link t dir name number ≡ true → LinkTests t dir name number
link_tests t dir name number h =
    let a = is_directory (inode_at t dir) in
    let b = is_some (inode_at t number) in
    let c = is_none (entry t dir name) in
    let d = not (same_key number root_number) in
    let e = not (is_directory (inode_at t number) && (has_name t number || is_inside t dir number)) in
    let abcd = both_true (((a && b) && c) && d) e h in
    let abc = both_true ((a && b) && c) d abcd.0 in
    let ab = both_true (a && b) c abc.0 in
    let both = both_true a b ab.0 in
    record { directory = both.0; exists = both.1; free = ab.1; no_root = abc.1; outside = abcd.1 }

may_be_linked : (t : Tree) (dir : Key) (name : List ℕ) (number : Key) → LinkTests t dir name number → MayBeNamed t (dir, name) number
may_be_linked t dir name number h = record {
  directory = h.directory;
  exists = h.exists;
  no_root = no_root number h.no_root;
  unnamed = λ isd p named. no_name t.names p number (both_false (has_name t number) (is_inside t dir number) (not_and (is_directory (inode_at t number)) (has_name t number || is_inside t dir number) h.outside isd)).0 named;
  outside = λ isd i. not_inside t dir number (both_false (has_name t number) (is_inside t dir number) (not_and (is_directory (inode_at t number)) (has_name t number || is_inside t dir number) h.outside isd)).1 i;
}

pub sound_link : (t : Tree) → IsSound t → (now : Moment) (dir : Key) (name : List ℕ) (number : Key) → IsSound (link t now dir name number)
sound_link t s now dir name number = sound_if (may_link t dir name number) _ _
    (λ may. sound_touched now dir (with_name t dir name number) (sound_named t s (dir, name) number (may_be_linked t dir name number (link_tests t dir name number may)))) s

-- the entry that is left is one that was there, at another place
left_entry : (t : Tree) (dir : Key) (name : List ℕ) (p : Place) → value_at place_cmp p (where_key place_cmp (λ q. not (eq_by_cmp place_cmp q (dir, name))) t.names) ≡ cond (not (eq_by_cmp place_cmp p (dir, name))) (value_at place_cmp p t.names) None
left_entry t dir name p = find-where_key place_cmp (λ q. not (eq_by_cmp place_cmp q (dir, name))) p (λ q tied. ap (λ (r : Place). not (eq_by_cmp place_cmp r (dir, name))) (sym (exact_places p q tied))) t.names

was_there : (b : Bool) (o : Option Key) (x : Key) → cond (not b) o None ≡ Some x → (b ≡ false) × (o ≡ Some x)
was_there true o x h = cc
was_there false o x h = (refl, h)

sound_without_name : (t : Tree) → IsSound t → (dir : Key) (name : List ℕ) → IsSound (without_name t dir name)
sound_without_name t s dir name = sound_fewer t s _ (to_test _ (is_sorted-where_key place_cmp (λ q. not (eq_by_cmp place_cmp q (dir, name))) t.names (from_test _ s.order.names))) (λ p y h. (was_there (eq_by_cmp place_cmp p (dir, name)) _ y (sym (left_entry t dir name p) ∙ h)).1)

sound_unlink : (t : Tree) → IsSound t → (now : Moment) (dir : Key) (name : List ℕ) → IsSound (unlink t now dir name)
sound_unlink t s now dir name = sound_if (option_map_or (may_lose_name t) (entry t dir name) false) _ _ (λ may. sound_touched now dir (without_name t dir name) (sound_without_name t s dir name)) s

module _ (t : Tree) (s : IsSound t) (dir : Key) (name : List ℕ) (moved : Key) (here : entry t dir name ≡ Some moved) (to_dir : Key) (to_name : List ℕ) where
  may_be_moved : may_rename t moved to_dir to_name ≡ true → MayBeNamed (without_name t dir name) (to_dir, to_name) moved
  may_be_moved may =
      let a = is_directory (inode_at t to_dir) in
      let b = may_replace t moved (entry t to_dir to_name) in
      let c = not (is_inside t to_dir moved) in
      let ab = both_true (a && b) c may in
      record {
        directory = (both_true a b ab.0).0;
        exists = s.there (dir, name) moved here;
        no_root = λ e. s.root_unnamed (dir, name) (here ∙ ap Some e);
        unnamed = λ isd p g.
            let was = was_there (eq_by_cmp place_cmp p (dir, name)) (value_at place_cmp p t.names) moved (sym (left_entry t dir name p) ∙ g) in
            let e : p ≡ (dir, name) = s.once p (dir, name) moved isd was.1 here in
            let tied : eq_by_cmp place_cmp p (dir, name) ≡ true = subst (λ (q : Place). eq_by_cmp place_cmp q (dir, name) ≡ true) (sym e) (same_place_itself (dir, name)) in
            let apart = was.0 in cc;
        outside = λ isd i. not_inside t to_dir moved (turned (is_inside t to_dir moved) ab.1) (IsInside-fewer (λ p y h. (was_there (eq_by_cmp place_cmp p (dir, name)) _ y (sym (left_entry t dir name p) ∙ h)).1) i);
      }
    where
      turned : (b : Bool) → not b ≡ true → b ≡ false
      turned true h = cc
      turned false h = refl

  sound_moved : (now : Moment) → IsSound (move t now dir name to_dir to_name (Some moved))
  sound_moved now = sound_if (may_rename t moved to_dir to_name) _ _
      (λ may. sound_touched now to_dir _ (sound_touched now dir _ (sound_named (without_name t dir name) (sound_without_name t s dir name) (to_dir, to_name) moved (may_be_moved may)))) s

sound_move : (t : Tree) → IsSound t → (now : Moment) (dir : Key) (name : List ℕ) (to_dir : Key) (to_name : List ℕ) (o : Option Key) → entry t dir name ≡ o → IsSound (move t now dir name to_dir to_name o)
sound_move t s now dir name to_dir to_name None e = s
sound_move t s now dir name to_dir to_name (Some moved) e = sound_moved t s dir name moved e to_dir to_name now

-- ---- all of them

pub sound_apply : (t : Tree) → IsSound t → (now : Moment) (o : Op) → IsSound (apply t now o)
sound_apply t s now (op.Inode number kind mode uid gid target) = sound_new t s number _ (is_some (inode_at t number)) refl
sound_apply t s now (op.Write number offset bytes) = sound_if (is_file (inode_at t number)) _ _ (λ h. sound_at_inode t s number _ (λ i. refl)) s
sound_apply t s now (op.Link dir name number) = sound_link t s now dir name number
sound_apply t s now (op.Unlink dir name) = sound_unlink t s now dir name
sound_apply t s now (op.Rename dir name to_dir to_name) = sound_move t s now dir name to_dir to_name (entry t dir name) refl
sound_apply t s now (op.Prepare dir name verifier) = s
sound_apply t s now (op.Cancel seq) = s
sound_apply t s now (op.SetAttrs number change) = sound_if (is_some change.size && not (is_file (inode_at t number))) _ _ (λ h. s) (sound_at_inode t s number (set_attributes now change) (λ i. refl))
sound_apply t s now op.End = s

sound_all : (ops : List (Moment × Op)) (t : Tree) → IsSound t → IsSound (apply_all t ops)
sound_all [] t s = s
sound_all (o ∷ os) t s = sound_all os (apply t o.0 o.1) (sound_apply t s o.0 o.1)

pub sound_empty : IsSound empty_tree
sound_empty = record {
  order = record { names = refl; inodes = refl };
  root = refl;
  root_unnamed = λ p h. cc;
  in_directories = λ p x h. cc;
  there = λ p x h. cc;
  once = λ p q x isd h g. cc;
  apart = λ p x isd h i. cc;
}

pub records_make_sound_trees : RecordsMakeSoundTrees
records_make_sound_trees ops = sound_all ops empty_tree sound_empty
