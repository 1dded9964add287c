-- What of a tree hangs on which operations.
use Rattle.std.proofs.Common.{◌≡◌, ℕ, List, [], ◌∷◌, filter, Option, Some, None, Bool, true, false, cond, not, is_some, refl, sym, ap, ◌∙◌, subst}
use Rattle.std.specs.Option.{option_map_or}
use Rattle.std.specs.FinMap.Entries.{find as value_at}
use Rattle.ivy_base.specs.declared.key.Key.{Key}
use Rattle.ivy_base.specs.declared.operation.Moment.{Moment}
use Rattle.ivy_base.specs.declared.operation.Op.{Op}
use Rattle.ivy_base.specs.declared.operation.Op.TheVariants as op
use Rattle.ivy_base.specs.Naming.{key_cmp, root_number}
use Rattle.tree_model.specs.Tree.{Tree, Inode, directory_kind, entry, inode_at, is_directory, same_key}
use Rattle.tree_model.specs.Apply.{apply, apply_all, at_inode, changed_inode, empty_tree, may_link, may_lose_name, may_rename, move, touched, with_inode, with_name, without_name}
use Rattle.tree_model.specs.Sound.{IsSound}
use Rattle.tree_model.proofs.Applied.{link_tests, sound_apply, sound_empty}
use Rattle.tree_model.proofs.Keys.{same_key_is}
use Rattle.tree_model.proofs.Names.{inode_at-with_inode}
use Rattle.tree_model.proofs.Sound.{both_true}
use Rattle.dir_replay.specs.Bare.{bare}
use Rattle.dir_replay.proofs.Effects.{bare-apply, bare-set_attributes, bare-write}
use Rattle.inode_replay.specs.Contents.{changed, made, new_inode, touched_inode}
use Rattle.inode_replay.proofs.Applied.{attributes-at, kind-changed, write-at}
use Rattle.fs_tree.specs.Laws.{FilesHangOnTheirOwn, NamesHangOnNames, content_after, is_of_content, is_on, own_of}

-- ---- one operation, of one inode

-- what an operation on the inode makes of it
abbrev next : Moment → Op → Option Inode → Option Inode
next now o None = made now o
next now o (Some i) = Some (changed now o i)

-- the inode of that number, once another one is changed, or it itself
at_changed : (t : Tree) (number n : Key) (f : Inode → Inode) → (o : Option Inode) → inode_at t number ≡ o → (b : Bool) → same_key n number ≡ b
    → inode_at (changed_inode t number o f) n ≡ cond b (option_map_or (λ i. Some (f i)) (inode_at t n) None) (inode_at t n)
at_changed t number n f None is true same = (let there : inode_at t n ≡ None = ap (inode_at t) (same_key_is n number same) ∙ is in rw (there) refl)
at_changed t number n f None is false other = refl
at_changed t number n f (Some i) is true same =
    let there : inode_at t n ≡ Some i = ap (inode_at t) (same_key_is n number same) ∙ is in
    inode_at-with_inode t number (f i) n ∙ ap (λ b. cond b (Some (f i)) (inode_at t n)) same ∙ sym (ap (λ o. option_map_or (λ i. Some (f i)) o None) there)
at_changed t number n f (Some i) is false other = inode_at-with_inode t number (f i) n ∙ ap (λ b. cond b (Some (f i)) (inode_at t n)) other

-- an operation that makes none leaves none
changed_or_none : (now : Moment) (o : Op) → made now o ≡ None → (i : Option Inode) → option_map_or (λ j. Some (changed now o j)) i None ≡ next now o i
changed_or_none now o none None = sym none
changed_or_none now o none (Some i) = refl

-- the inode after the operation: what that makes of it, where it is on it, and else as it was
abbrev Stays : Tree → Moment → Op → Key → Type 0
Stays t now o n = inode_at (apply t now o) n ≡ cond (is_on n o) (next now o (inode_at t n)) (inode_at t n)

new_by : (t : Tree) (n number : Key) (i : Inode) → (f : Option Inode → Option Inode) → f None ≡ Some i → ((j : Inode) → f (Some j) ≡ Some j) → (b : Bool) → same_key n number ≡ b → (o : Option Inode) → inode_at t number ≡ o
    → inode_at (cond (is_some o) t (with_inode t number i)) n ≡ cond b (f (inode_at t n)) (inode_at t n)
new_by t n number i f none some true same None is =
    let there : inode_at t n ≡ None = ap (inode_at t) (same_key_is n number same) ∙ is in
    inode_at-with_inode t number i n ∙ ap (λ b. cond b (Some i) (inode_at t n)) same ∙ sym (ap f there ∙ none)
new_by t n number i f none some true same (Some j) is =
    let there : inode_at t n ≡ Some j = ap (inode_at t) (same_key_is n number same) ∙ is in
    there ∙ sym (ap f there ∙ some j)
new_by t n number i f none some false other None is = inode_at-with_inode t number i n ∙ ap (λ b. cond b (Some i) (inode_at t n)) other
new_by t n number i f none some false other (Some j) is = refl

-- an inode that is no directory isn't that directory
another : (t : Tree) (dir n : Key) → is_directory (inode_at t dir) ≡ true → is_directory (inode_at t n) ≡ false → same_key n dir ≡ false
another t dir n directory file = by (same_key n dir) refl
  where
    by : (b : Bool) → same_key n dir ≡ b → b ≡ false
    by true same = sym directory ∙ sym (ap (λ k. is_directory (inode_at t k)) (same_key_is n dir same)) ∙ file
    by false other = refl

-- and stays as it is where the entries of another one change
touched_other : (now : Moment) (dir n : Key) (t : Tree) → same_key n dir ≡ false → inode_at (touched now dir t) n ≡ inode_at t n
touched_other now dir n t other = at_changed t dir n (touched_inode now) (inode_at t dir) refl false other

module _ (t : Tree) (sound : IsSound t) (now : Moment) (n : Key) (file : is_directory (inode_at t n) ≡ false) where
  by_link : (dir : Key) (name : List ℕ) (number : Key) → (b : Bool) → may_link t dir name number ≡ b → inode_at (cond b (touched now dir (with_name t dir name number)) t) n ≡ inode_at t n
  by_link dir name number true may = touched_other now dir n (with_name t dir name number) (another t dir n (link_tests t dir name number may).directory file)
  by_link dir name number false may = refl

  by_unlink : (dir : Key) (name : List ℕ) → (o : Option Key) → entry t dir name ≡ o → (b : Bool) → option_map_or (may_lose_name t) o false ≡ b → inode_at (cond b (touched now dir (without_name t dir name)) t) n ≡ inode_at t n
  by_unlink dir name None is true may = cc may
  by_unlink dir name (Some x) is true may = touched_other now dir n (without_name t dir name) (another t dir n (sound.in_directories (dir, name) x is) file)
  by_unlink dir name o is false may = refl

  by_rename : (dir : Key) (name : List ℕ) (to_dir : Key) (to_name : List ℕ) (moved : Key) → entry t dir name ≡ Some moved → (b : Bool) → may_rename t moved to_dir to_name ≡ b
      → inode_at (cond b (touched now to_dir (touched now dir (with_name (without_name t dir name) to_dir to_name moved))) t) n ≡ inode_at t n
  by_rename dir name to_dir to_name moved is false may = refl
  by_rename dir name to_dir to_name moved is true may =
      let u : Tree = with_name (without_name t dir name) to_dir to_name moved in
      touched_other now to_dir n (touched now dir u) (another t to_dir n (both_true _ _ (both_true _ _ may).0).0 file)
      ∙ touched_other now dir n u (another t dir n (sound.in_directories (dir, name) moved is) file)

  by_move : (dir : Key) (name : List ℕ) (to_dir : Key) (to_name : List ℕ) → (o : Option Key) → entry t dir name ≡ o → inode_at (move t now dir name to_dir to_name o) n ≡ inode_at t n
  by_move dir name to_dir to_name None is = refl
  by_move dir name to_dir to_name (Some moved) is = by_rename dir name to_dir to_name moved is (may_rename t moved to_dir to_name) refl

  stays : (o : Op) → Stays t now o n
  stays (op.Inode number kind mode uid gid target) = new_by t n number (new_inode now kind mode uid gid target) (next now (op.Inode number kind mode uid gid target)) refl (λ j. refl) (same_key n number) refl (inode_at t number) refl
  stays (op.Write number offset bytes) =
      ap (λ u. inode_at u n) (write-at t sound.order now number offset bytes)
      ∙ at_changed t number n (changed now (op.Write number offset bytes)) (inode_at t number) refl (same_key n number) refl
      ∙ ap (λ i. cond (same_key n number) i (inode_at t n)) (changed_or_none now (op.Write number offset bytes) refl (inode_at t n))
  stays (op.SetAttrs number change) =
      ap (λ u. inode_at u n) (attributes-at t sound.order now number change)
      ∙ at_changed t number n (changed now (op.SetAttrs number change)) (inode_at t number) refl (same_key n number) refl
      ∙ ap (λ i. cond (same_key n number) i (inode_at t n)) (changed_or_none now (op.SetAttrs number change) refl (inode_at t n))
  stays (op.Link dir name number) = by_link dir name number (may_link t dir name number) refl
  stays (op.Unlink dir name) = by_unlink dir name (entry t dir name) refl (option_map_or (may_lose_name t) (entry t dir name) false) refl
  stays (op.Rename dir name to_dir to_name) = by_move dir name to_dir to_name (entry t dir name) refl
  stays (op.Prepare dir name verifier) = refl
  stays (op.Cancel seq) = refl
  stays op.End = refl

-- ---- many operations, of one inode

-- what is a directory there is one here
abbrev StaysDirectory : Key → Tree → Tree → Type 0
StaysDirectory n t u = is_directory (inode_at t n) ≡ true → is_directory (inode_at u n) ≡ true

if_changed : (b : Bool) (f : Inode → Inode) → ((i : Inode) → (f i).kind ≡ i.kind) → (o : Option Inode) → is_directory o ≡ true → is_directory (cond b (option_map_or (λ i. Some (f i)) o None) o) ≡ true
if_changed true f kinds None directory = cc directory
if_changed true f kinds (Some i) directory = ap directory_kind (kinds i) ∙ directory
if_changed false f kinds o directory = directory

where_changed : (t : Tree) (number n : Key) (f : Inode → Inode) → ((i : Inode) → (f i).kind ≡ i.kind) → StaysDirectory n t (at_inode t number f)
where_changed t number n f kinds directory =
    ap is_directory (at_changed t number n f (inode_at t number) refl (same_key n number) refl) ∙ if_changed (same_key n number) f kinds (inode_at t n) directory

where_touched : (now : Moment) (t : Tree) (dir n : Key) → StaysDirectory n t (touched now dir t)
where_touched now t dir n = where_changed t dir n (touched_inode now) (λ i. refl)

where_new : (t : Tree) (n number : Key) (i : Inode) → (o : Option Inode) → inode_at t number ≡ o → (b : Bool) → same_key n number ≡ b → StaysDirectory n t (cond (is_some o) t (with_inode t number i))
where_new t n number i (Some j) is b same directory = directory
where_new t n number i None is true same directory = (let no : false ≡ true = sym (ap is_directory (ap (inode_at t) (same_key_is n number same) ∙ is)) ∙ directory in cc no)
where_new t n number i None is false other directory = ap is_directory (inode_at-with_inode t number i n ∙ ap (λ b. cond b (Some i) (inode_at t n)) other) ∙ directory

where_either : (n : Key) (t u : Tree) (b : Bool) → StaysDirectory n t u → StaysDirectory n t (cond b u t)
where_either n t u true stay = stay
where_either n t u false stay = λ directory. directory

where_moved : (now : Moment) (t : Tree) (n dir : Key) (name : List ℕ) (to_dir : Key) (to_name : List ℕ) (o : Option Key) → StaysDirectory n t (move t now dir name to_dir to_name o)
where_moved now t n dir name to_dir to_name None = λ directory. directory
where_moved now t n dir name to_dir to_name (Some moved) =
    let u : Tree = with_name (without_name t dir name) to_dir to_name moved in
    where_either n t (touched now to_dir (touched now dir u)) (may_rename t moved to_dir to_name) (λ directory. where_touched now (touched now dir u) to_dir n (where_touched now u dir n directory))

stays_directory : (t : Tree) → IsSound t → (now : Moment) (o : Op) (n : Key) → StaysDirectory n t (apply t now o)
stays_directory t sound now (op.Inode number kind mode uid gid target) n = where_new t n number (new_inode now kind mode uid gid target) (inode_at t number) refl (same_key n number) refl
stays_directory t sound now (op.Write number offset bytes) n =
    subst (StaysDirectory n t) (sym (write-at t sound.order now number offset bytes)) (where_changed t number n (changed now (op.Write number offset bytes)) (kind-changed now (op.Write number offset bytes)))
stays_directory t sound now (op.SetAttrs number change) n =
    subst (StaysDirectory n t) (sym (attributes-at t sound.order now number change)) (where_changed t number n (changed now (op.SetAttrs number change)) (kind-changed now (op.SetAttrs number change)))
stays_directory t sound now (op.Link dir name number) n = where_either n t (touched now dir (with_name t dir name number)) (may_link t dir name number) (where_touched now (with_name t dir name number) dir n)
stays_directory t sound now (op.Unlink dir name) n = where_either n t (touched now dir (without_name t dir name)) (option_map_or (may_lose_name t) (entry t dir name) false) (where_touched now (without_name t dir name) dir n)
stays_directory t sound now (op.Rename dir name to_dir to_name) n = where_moved now t n dir name to_dir to_name (entry t dir name)
stays_directory t sound now (op.Prepare dir name verifier) n = λ directory. directory
stays_directory t sound now (op.Cancel seq) n = λ directory. directory
stays_directory t sound now op.End n = λ directory. directory

all_stay_directory : (t : Tree) → IsSound t → (ops : List (Moment × Op)) (n : Key) → StaysDirectory n t (apply_all t ops)
all_stay_directory t sound [] n directory = directory
all_stay_directory t sound (o ∷ ops) n directory = all_stay_directory (apply t o.0 o.1) (sound_apply t sound o.0 o.1) ops n (stays_directory t sound o.0 o.1 n directory)

-- what is on the inode goes on with it, and what isn't leaves it
own_behind : (o : Moment × Op) (ops : List (Moment × Op)) (n : Key) (i : Option Inode) → (b : Bool) → is_on n o.1 ≡ b
    → content_after i (cond b (o ∷ own_of n ops) (own_of n ops)) ≡ content_after (cond b (next o.0 o.1 i) i) (own_of n ops)
own_behind o ops n None true on = refl
own_behind o ops n (Some i) true on = refl
own_behind o ops n i false off = refl

-- an inode that is no directory in the end hangs on its own operations
hang_on_their_own : (ops : List (Moment × Op)) (t : Tree) → IsSound t → (n : Key) → is_directory (inode_at (apply_all t ops) n) ≡ false → content_after (inode_at t n) (own_of n ops) ≡ inode_at (apply_all t ops) n
hang_on_their_own [] t sound n file = refl
hang_on_their_own (o ∷ ops) t sound n file =
    own_behind o ops n (inode_at t n) (is_on n o.1) refl
    ∙ ap (λ i. content_after i (own_of n ops)) (sym (stays t sound o.0 n (was (is_directory (inode_at t n)) refl) o.1))
    ∙ hang_on_their_own ops (apply t o.0 o.1) (sound_apply t sound o.0 o.1) n file
  where
    was : (b : Bool) → is_directory (inode_at t n) ≡ b → b ≡ false
    was true directory = sym (all_stay_directory t sound (o ∷ ops) n directory) ∙ file
    was false file = refl

-- it isn't there at first: the root is a directory
alone_is_another : (n : Key) (i : Inode) → same_key n root_number ≡ false → value_at key_cmp n ((root_number, i) ∷ []) ≡ None
alone_is_another n i other = ap (λ b. cond b (Some i) None) other

none_at_first : (ops : List (Moment × Op)) (n : Key) → is_directory (inode_at (apply_all empty_tree ops) n) ≡ false → inode_at empty_tree n ≡ None
none_at_first ops n file = by (same_key n root_number) refl
  where
    by : (b : Bool) → same_key n root_number ≡ b → inode_at empty_tree n ≡ None
    by true same =
        let directory : is_directory (inode_at empty_tree n) ≡ true = ap (λ k. is_directory (inode_at empty_tree k)) (same_key_is n root_number same) ∙ sound_empty.root in
        let no : true ≡ false = sym (all_stay_directory empty_tree sound_empty ops n directory) ∙ file in
        cc no
    by false other = alone_is_another n _ other

pub files_hang_on_their_own : FilesHangOnTheirOwn
files_hang_on_their_own ops n i is kind =
    let file = ap is_directory is ∙ kind in
    ap (λ o. content_after o (own_of n ops)) (sym (none_at_first ops n file)) ∙ hang_on_their_own ops empty_tree sound_empty n file ∙ is

-- ---- names

-- an operation that isn't of contents does to two trees of the same names and kinds the same
same_bare : (t u : Tree) → IsSound t → IsSound u → bare t ≡ bare u → (now : Moment) (o : Op) → bare (apply t now o) ≡ bare (apply u now o)
same_bare t u sound soundly same now o = bare-apply t sound now now o ∙ ap (λ v. bare (apply v now o)) same ∙ sym (bare-apply u soundly now now o)

-- and one of contents leaves them
content_leaves : (t : Tree) → IsSound t → (now : Moment) (o : Op) → is_of_content o ≡ true → bare (apply t now o) ≡ bare t
content_leaves t sound now (op.Write number offset bytes) of = bare-write t sound.order.inodes now number offset bytes
content_leaves t sound now (op.SetAttrs number change) of = bare-set_attributes t sound.order.inodes now number change
content_leaves t sound now o of = cc of

hang_on_names : (ops : List (Moment × Op)) (t u : Tree) → IsSound t → IsSound u → bare t ≡ bare u → bare (apply_all t ops) ≡ bare (apply_all u (filter (λ o. not (is_of_content o.1)) ops))
hang_on_names [] t u sound soundly same = same
hang_on_names (o ∷ ops) t u sound soundly same =
    by (is_of_content o.1) refl
    (λ of. hang_on_names ops (apply t o.0 o.1) u (sound_apply t sound o.0 o.1) soundly (content_leaves t sound o.0 o.1 of ∙ same))
    (hang_on_names ops (apply t o.0 o.1) (apply u o.0 o.1) (sound_apply t sound o.0 o.1) (sound_apply u soundly o.0 o.1) (same_bare t u sound soundly same o.0 o.1))
  where
    others : List (Moment × Op)
    others = filter (λ p. not (is_of_content p.1)) ops

    by : (b : Bool) → is_of_content o.1 ≡ b → (is_of_content o.1 ≡ true → bare (apply_all (apply t o.0 o.1) ops) ≡ bare (apply_all u others))
        → bare (apply_all (apply t o.0 o.1) ops) ≡ bare (apply_all (apply u o.0 o.1) others) → bare (apply_all (apply t o.0 o.1) ops) ≡ bare (apply_all u (cond (not b) (o ∷ others) others))
    by true of leaves changes = leaves of
    by false other leaves changes = changes

pub names_hang_on_names : NamesHangOnNames
names_hang_on_names ops = hang_on_names ops empty_tree empty_tree sound_empty sound_empty refl
