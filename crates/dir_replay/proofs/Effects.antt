-- What an operation does: to the names what `names_after` says, to the times of the directories it touches what
-- `touched` says, and to a bare tree what it does to the names of any.
use Rattle.std.proofs.Common.{◌≡◌, ℕ, List, Option, Some, None, Bool, true, false, cond, not, ◌&&◌, is_some, map, refl, sym, ap, ◌∙◌, subst}
use Rattle.std.specs.Option.{option_map_or}
use Rattle.std.specs.FinMap.Entries.{is_sorted}
use Rattle.ivy_base.specs.declared.key.Key.{Key}
use Rattle.ivy_base.specs.declared.operation.Kind.{Kind}
use Rattle.ivy_base.specs.declared.operation.Moment.{Moment}
use Rattle.ivy_base.specs.declared.operation.Change.{Change}
use Rattle.ivy_base.specs.declared.operation.Op.{Op}
use Rattle.ivy_base.specs.declared.operation.Op.TheVariants as op
use Rattle.ivy_base.specs.Naming.{key_cmp}
use Rattle.tree_model.specs.Tree.{Tree, Inode, same_key, inode_at, entry, is_file}
use Rattle.tree_model.specs.Apply.{with_inode, at_inode, set_attributes, touched, with_name, without_name, may_rename, move, apply}
use Rattle.tree_model.specs.Sound.{IsSound}
use Rattle.tree_model.proofs.Keys.{same_key_is}
use Rattle.tree_model.proofs.Applied.{sound_apply}
use Rattle.dir_replay.specs.declared.touched.Touched.{Touched}
use Rattle.dir_replay.specs.Bare.{bare, bare_inode, IsBare}
use Rattle.dir_replay.specs.Effect.{is_effective, touched_by, none_touched, with_names_changed, names_after, IsOfNames, touched_at, all_touched}
use Rattle.dir_replay.proofs.Bare.{bare_twice, sound-bare, is_some-bare, bare-with_inode, bare-at_inode, bare-touched, sorted_touched, touched_twice, is_effective-bare}

-- ---- what an operation of names makes of a whole tree

both_touched : (t : Tree) (now : Moment) (dir to_dir : Key) → is_sorted key_cmp t.inodes ≡ true → (b : Bool) → same_key to_dir dir ≡ b → touched now to_dir (touched now dir t) ≡ touched_at now (cond b None (Some to_dir)) (touched now dir t)
both_touched t now dir to_dir order true same = ap (λ (k : Key). touched now k (touched now dir t)) (same_key_is to_dir dir same) ∙ touched_twice now dir t order
both_touched t now dir to_dir order false other = refl

-- the tree with its names changed and the directories of these touched at that moment; nothing else is changed
pub apply_names_is : (t : Tree) → is_sorted key_cmp t.inodes ≡ true → (now : Moment) (o : Op) → IsOfNames o → apply t now o ≡ all_touched now (touched_by t o) (names_after t o)
apply_names_is t order now (op.Link dir name number) of = by (is_effective t (op.Link dir name number))
  where
    by : (b : Bool) → cond b (touched now dir (with_name t dir name number)) t ≡ all_touched now (cond b (record { first = Some dir; second = None }) none_touched) (cond b (with_name t dir name number) t)
    by true = refl
    by false = refl
apply_names_is t order now (op.Unlink dir name) of = by (is_effective t (op.Unlink dir name))
  where
    by : (b : Bool) → cond b (touched now dir (without_name t dir name)) t ≡ all_touched now (cond b (record { first = Some dir; second = None }) none_touched) (cond b (without_name t dir name) t)
    by true = refl
    by false = refl
apply_names_is t order now (op.Rename dir name to_dir to_name) of = at (entry t dir name) refl
  where
    by : (u : Tree) → is_sorted key_cmp u.inodes ≡ true → (b : Bool) → cond b (touched now to_dir (touched now dir u)) t ≡ all_touched now (cond b (record { first = Some dir; second = cond (same_key to_dir dir) None (Some to_dir) }) none_touched) (cond b u t)
    by u kept true = both_touched u now dir to_dir kept (same_key to_dir dir) refl
    by u kept false = refl

    at : (o : Option Key) → entry t dir name ≡ o → move t now dir name to_dir to_name (entry t dir name) ≡ all_touched now (touched_by t (op.Rename dir name to_dir to_name)) (names_after t (op.Rename dir name to_dir to_name))
    at None none = rw (none) refl
    at (Some moved) found = rw (found) (by (with_name (without_name t dir name) to_dir to_name moved) order (may_rename t moved to_dir to_name))
apply_names_is t order now (op.Inode number kind mode uid gid target) of = absurd of
apply_names_is t order now (op.Write number offset bytes) of = absurd of
apply_names_is t order now (op.Prepare dir name verifier) of = absurd of
apply_names_is t order now (op.Cancel seq) of = absurd of
apply_names_is t order now (op.SetAttrs number change) of = absurd of
apply_names_is t order now op.End of = absurd of

-- an operation of names leaves the inodes
pub inodes_kept : (t : Tree) (o : Op) → (names_after t o).inodes ≡ t.inodes
inodes_kept t o = if_kept (is_effective t o) (with_names_changed t o) (changed o)
  where
    if_kept : (b : Bool) (u : Tree) → u.inodes ≡ t.inodes → (cond b u t).inodes ≡ t.inodes
    if_kept true u h = h
    if_kept false u h = refl

    moved : (dir : Key) (name : List ℕ) (to_dir : Key) (to_name : List ℕ) (e : Option Key) → entry t dir name ≡ e → (with_names_changed t (op.Rename dir name to_dir to_name)).inodes ≡ t.inodes
    moved dir name to_dir to_name None is = rw (is) refl
    moved dir name to_dir to_name (Some x) is = rw (is) refl

    changed : (o : Op) → (with_names_changed t o).inodes ≡ t.inodes
    changed (op.Link dir name number) = refl
    changed (op.Unlink dir name) = refl
    changed (op.Rename dir name to_dir to_name) = moved dir name to_dir to_name (entry t dir name) refl
    changed (op.Inode number kind mode uid gid target) = refl
    changed (op.Write number offset bytes) = refl
    changed (op.Prepare dir name verifier) = refl
    changed (op.Cancel seq) = refl
    changed (op.SetAttrs number change) = refl
    changed op.End = refl

-- ---- made bare

bare_touched_at : (now : Moment) (d : Option Key) (t : Tree) → is_sorted key_cmp t.inodes ≡ true → bare (touched_at now d t) ≡ bare t
bare_touched_at now None t order = refl
bare_touched_at now (Some dir) t order = bare-touched now dir t order

sorted_touched_at : (now : Moment) (d : Option Key) (t : Tree) → is_sorted key_cmp t.inodes ≡ true → is_sorted key_cmp (touched_at now d t).inodes ≡ true
sorted_touched_at now None t order = order
sorted_touched_at now (Some dir) t order = sorted_touched now dir t order

bare_all_touched : (now : Moment) (dirs : Touched) (t : Tree) → is_sorted key_cmp t.inodes ≡ true → bare (all_touched now dirs t) ≡ bare t
bare_all_touched now dirs t order = bare_touched_at now dirs.second (touched_at now dirs.first t) (sorted_touched_at now dirs.first t order) ∙ bare_touched_at now dirs.first t order

pub bare-apply_names : (t : Tree) → is_sorted key_cmp t.inodes ≡ true → (now : Moment) (o : Op) → IsOfNames o → bare (apply t now o) ≡ bare (names_after t o)
bare-apply_names t order now o of =
    ap bare (apply_names_is t order now o of)
    ∙ bare_all_touched now (touched_by t o) (names_after t o) (ap (is_sorted key_cmp) (inodes_kept t o) ∙ order)

-- a bare tree stays bare
bare_kept : (t u : Tree) → IsBare t → u.inodes ≡ t.inodes → IsBare u
bare_kept t u b same = λ i. record { names = u.names; inodes = (ap (λ l. map (λ e. (e.0, bare_inode e.1.kind)) l) same ∙ ap (λ (w : Tree). w.inodes) b ∙ sym same) i }

pub bare_after : (t : Tree) → IsBare t → (o : Op) → IsBare (names_after t o)
bare_after t b o = bare_kept t (names_after t o) b (inodes_kept t o)

pub bare_names_after : (t : Tree) → IsSound t → IsBare t → (now : Moment) (o : Op) → IsOfNames o → names_after t o ≡ bare (apply t now o)
bare_names_after t s b now o of = sym (bare_after t b o) ∙ sym (bare-apply_names t s.order.inodes now o of)

pub sound_after : (t : Tree) → IsSound t → IsBare t → (o : Op) → IsOfNames o → IsSound (names_after t o)
sound_after t s b o of =
    let start : Moment = record { sec = 0; nsec = 0 } in
    subst (λ (u : Tree). IsSound u) (sym (bare_names_after t s b start o of)) (sound-bare (apply t start o) (sound_apply t s start o))

-- ---- the same for every operation, whatever the inodes contain and whenever it is

bare_with_new : (t : Tree) (number : Key) (i j : Inode) → i.kind ≡ j.kind → bare (cond (is_some (inode_at t number)) t (with_inode t number i)) ≡ bare (cond (is_some (inode_at (bare t) number)) (bare t) (with_inode (bare t) number j))
bare_with_new t number i j same = by (is_some (inode_at t number)) ∙ ap (λ b. bare (cond b (bare t) (with_inode (bare t) number j))) (sym (is_some-bare t number))
  where
    by : (b : Bool) → bare (cond b t (with_inode t number i)) ≡ bare (cond b (bare t) (with_inode (bare t) number j))
    by true = sym (bare_twice t)
    by false =
        bare-with_inode t number i ∙ ap (λ kind. with_inode (bare t) number (bare_inode kind)) same
        ∙ ap (λ (u : Tree). with_inode u number (bare_inode j.kind)) (sym (bare_twice t)) ∙ sym (bare-with_inode (bare t) number j)

if_changed : (t : Tree) (b : Bool) (k : Key) (f : Inode → Inode) → is_sorted key_cmp t.inodes ≡ true → ((i : Inode) → (f i).kind ≡ i.kind) → bare (cond b (at_inode t k f) t) ≡ bare t
if_changed t true k f order kept = bare-at_inode t k f order kept
if_changed t false k f order kept = refl

if_kept : (t : Tree) (b : Bool) (k : Key) (f : Inode → Inode) → is_sorted key_cmp t.inodes ≡ true → ((i : Inode) → (f i).kind ≡ i.kind) → bare (cond b t (at_inode t k f)) ≡ bare t
if_kept t true k f order kept = refl
if_kept t false k f order kept = bare-at_inode t k f order kept

-- a write or other attributes leave the names and the kinds as they are
pub bare-write : (t : Tree) → is_sorted key_cmp t.inodes ≡ true → (now : Moment) (number : Key) (offset : ℕ) (bytes : List ℕ) → bare (apply t now (op.Write number offset bytes)) ≡ bare t
bare-write t order now number offset bytes = if_changed t (is_file (inode_at t number)) number _ order (λ i. refl)

pub bare-set_attributes : (t : Tree) → is_sorted key_cmp t.inodes ≡ true → (now : Moment) (number : Key) (change : Change) → bare (apply t now (op.SetAttrs number change)) ≡ bare t
bare-set_attributes t order now number change = if_kept t (is_some change.size && not (is_file (inode_at t number))) number (set_attributes now change) order (λ i. refl)

names_changed_bare : (t : Tree) (o : Op) → bare (with_names_changed t o) ≡ bare (with_names_changed (bare t) o)
names_changed_bare t (op.Link dir name number) = λ i. record { names = (with_name t dir name number).names; inodes = (ap (λ (u : Tree). u.inodes) (sym (bare_twice t))) i }
names_changed_bare t (op.Unlink dir name) = λ i. record { names = (without_name t dir name).names; inodes = (ap (λ (u : Tree). u.inodes) (sym (bare_twice t))) i }
names_changed_bare t (op.Rename dir name to_dir to_name) = by (entry t dir name)
  where
    by : (o : Option Key) → bare (option_map_or (λ moved. with_name (without_name t dir name) to_dir to_name moved) o t) ≡ bare (option_map_or (λ moved. with_name (without_name (bare t) dir name) to_dir to_name moved) o (bare t))
    by None = sym (bare_twice t)
    by (Some moved) = λ i. record { names = (with_name (without_name t dir name) to_dir to_name moved).names; inodes = (ap (λ (u : Tree). u.inodes) (sym (bare_twice t))) i }
names_changed_bare t (op.Inode number kind mode uid gid target) = sym (bare_twice t)
names_changed_bare t (op.Write number offset bytes) = sym (bare_twice t)
names_changed_bare t (op.Prepare dir name verifier) = sym (bare_twice t)
names_changed_bare t (op.Cancel seq) = sym (bare_twice t)
names_changed_bare t (op.SetAttrs number change) = sym (bare_twice t)
names_changed_bare t op.End = sym (bare_twice t)

names_after_bare : (t : Tree) (o : Op) → bare (names_after t o) ≡ bare (names_after (bare t) o)
names_after_bare t o = by (is_effective t o) ∙ ap (λ b. bare (cond b (with_names_changed (bare t) o) (bare t))) (sym (is_effective-bare t o))
  where
    by : (b : Bool) → bare (cond b (with_names_changed t o) t) ≡ bare (cond b (with_names_changed (bare t) o) (bare t))
    by true = names_changed_bare t o
    by false = sym (bare_twice t)

same_names : (t : Tree) → IsSound t → (now later : Moment) (o : Op) → IsOfNames o → bare (apply t now o) ≡ bare (apply (bare t) later o)
same_names t s now later o of = bare-apply_names t s.order.inodes now o of ∙ names_after_bare t o ∙ sym (bare-apply_names (bare t) (sound-bare t s).order.inodes later o of)

pub bare-apply : (t : Tree) → IsSound t → (now later : Moment) (o : Op) → bare (apply t now o) ≡ bare (apply (bare t) later o)
bare-apply t s now later (op.Inode number kind mode uid gid target) = bare_with_new t number _ _ refl
bare-apply t s now later (op.Write number offset bytes) = bare-write t s.order.inodes now number offset bytes ∙ sym (bare_twice t) ∙ sym (bare-write (bare t) (sound-bare t s).order.inodes later number offset bytes)
bare-apply t s now later (op.Link dir name number) = same_names t s now later (op.Link dir name number) tt
bare-apply t s now later (op.Unlink dir name) = same_names t s now later (op.Unlink dir name) tt
bare-apply t s now later (op.Rename dir name to_dir to_name) = same_names t s now later (op.Rename dir name to_dir to_name) tt
bare-apply t s now later (op.Prepare dir name verifier) = sym (bare_twice t)
bare-apply t s now later (op.Cancel seq) = sym (bare_twice t)
bare-apply t s now later (op.SetAttrs number change) = bare-set_attributes t s.order.inodes now number change ∙ sym (bare_twice t) ∙ sym (bare-set_attributes (bare t) (sound-bare t s).order.inodes later number change)
bare-apply t s now later op.End = sym (bare_twice t)

-- a bare tree after an Inode
pub bare_with_new_inode : (t : Tree) → IsBare t → (now : Moment) (number : Key) (kind : Kind) (mode uid gid : ℕ) (target : List ℕ) → cond (is_some (inode_at t number)) t (with_inode t number (bare_inode kind)) ≡ bare (apply t now (op.Inode number kind mode uid gid target))
bare_with_new_inode t b now number kind mode uid gid target = by (is_some (inode_at t number)) (record { kind = kind; attributes = record { mode = mode; uid = uid; gid = gid; atime = now; mtime = now; ctime = now }; body = target }) refl
  where
    by : (c : Bool) (i : Inode) → i.kind ≡ kind → cond c t (with_inode t number (bare_inode kind)) ≡ bare (cond c t (with_inode t number i))
    by true i same = sym b
    by false i same = ap (λ (u : Tree). with_inode u number (bare_inode kind)) (sym b) ∙ ap (λ k. with_inode (bare t) number (bare_inode k)) (sym same) ∙ sym (bare-with_inode t number i)
