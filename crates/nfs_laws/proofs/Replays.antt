-- What records make of a tree: names of files that may be counted, and inodes within their bounds.
use Rattle.std.proofs.Common.{◌≡◌, ℕ, ◌+◌, ◌-◌, ◌<◌, ◌≤◌, ◌^◌, Bool, true, false, cond, not, ◌&&◌, List, [], ◌∷◌, ◌++◌, length, map, take, drop, replicate, Option, Some, None, refl, sym, subst, arith, length-append, length-take, length-drop}
use Rattle.std.specs.Prelude.{is_some, unwrap_or, IfSome, ⊤}
use Rattle.std.specs.List.{AllByRecursion}
use Rattle.std.specs.declared.cmp.Ordering.{Ordering}
use Rattle.std.specs.declared.cmp.Ordering.TheVariants.{Less, Equal, Greater}
use Rattle.std.specs.Ordering.{eq_by_cmp}
use Rattle.std.specs.FinMap.Entries.{put, where_key, by_order}
use Rattle.std.proofs.lemmas.List.{length-replicate}
use Rattle.ivy_base.specs.declared.key.Key.{Key}
use Rattle.ivy_base.specs.declared.operation.Kind.{Kind}
use Rattle.ivy_base.specs.declared.operation.Kind.TheVariants.{Reg, Dir, Lnk}
use Rattle.ivy_base.specs.declared.operation.Moment.{Moment}
use Rattle.ivy_base.specs.declared.operation.Change.{Change}
use Rattle.ivy_base.specs.declared.operation.Op.{Op}
use Rattle.ivy_base.specs.declared.operation.Op.TheVariants as op
use Rattle.ivy_base.specs.Naming.{root_number, IsFileName}
use Rattle.tree_model.specs.Tree.{Tree, Inode, Place, place_cmp, inode_at, entry, same_key, is_file, longest_file}
use Rattle.tree_model.specs.Apply.{apply, apply_all, empty_tree, with_inode, at_inode, touched, move, set_attributes, overwritten, resized, with_name, without_name, may_link, may_rename}
use Rattle.tree_model.proofs.Names.{names-touched, names-changed_inode}
use Rattle.log_model.specs.Record.{Record}
use Rattle.log_model.specs.Replay.{effect}
use Rattle.log_model.specs.Spelling.{IsMode, IsMoment, IsTarget, IsChange, OperationFits}
use Rattle.log_model.proofs.Later.{good_of}
use Rattle.log_model.proofs.Lists.{each_from}
use Rattle.log_model.proofs.Numbers.{records_make_keys}
use Rattle.log_model.proofs.Sets.{ascending_in_order}
use Rattle.nfs_laws.specs.Replies.{InodeFits, TreeFits, RecordsMakeTrees, SetsMakeTrees}
use Rattle.nfs_laws.proofs.Counts.{few_in_closed}
use Rattle.nfs_laws.proofs.Trees.{named_apply_all, records_make_names, inodes_if, inodes_with, inodes_at, inodes_root}

-- ---- names

files : (names : List (Place × Key)) → AllByRecursion (λ e. IsFileName e.0.1 × ⊤) names → AllByRecursion (λ e. IsFileName e.0.1) names
files [] named = tt
files (e ∷ es) named = (named.0.0, files es named.1)

make_file_names : (ops : List (Moment × Op)) → AllByRecursion (λ o. OperationFits o.1) ops → AllByRecursion (λ e. IsFileName e.0.1) (apply_all empty_tree ops).names
make_file_names ops fit = files (apply_all empty_tree ops).names (named_apply_all (λ p. IsFileName p.1) (λ k. ⊤) (λ dir name key file. file) (λ number key. tt) empty_tree ops tt fit)

-- ---- how many names

count_by_order : (r : Ordering) (n : ℕ) (less equal greater : List (Place × Key)) → length less ≤ n → length equal ≤ n → length greater ≤ n → length (by_order r less equal greater) ≤ n
count_by_order Less n less equal greater a b c = a
count_by_order Equal n less equal greater a b c = b
count_by_order Greater n less equal greater a b c = c

count_put : (p : Place) (number : Key) (names : List (Place × Key)) → length (put place_cmp p number names) ≤ length names + 1
count_put p number [] = omega arith
count_put p number (e ∷ es) = count_by_order (place_cmp p e.0) (length (e ∷ es) + 1) _ _ _ (omega arith) (omega arith) (omega (arith, count_put p number es))

count_where : (test : Place → Bool) (names : List (Place × Key)) → length (where_key place_cmp test names) ≤ length names
count_where test [] = omega arith
count_where test (e ∷ es) = by (test e.0) (count_where test es)
  where
    by : (b : Bool) → length (where_key place_cmp test es) ≤ length es → length (cond b (e ∷ where_key place_cmp test es) (where_key place_cmp test es)) ≤ length (e ∷ es)
    by true again = omega (arith, again)
    by false again = omega (arith, again)

-- there are at most so many names
pub record NamesUpTo (n : ℕ) (t : Tree) : Type 0 where
  pub most : length t.names ≤ n

count_if : (n : ℕ) (b : Bool) (x y : Tree) → NamesUpTo n x → NamesUpTo n y → NamesUpTo n (cond b x y)
count_if n true x y h g = h
count_if n false x y h g = g

count_touched : (n : ℕ) (now : Moment) (dir : Key) (t : Tree) → NamesUpTo n t → NamesUpTo n (touched now dir t)
count_touched n now dir t h = record { most = subst (λ (names : List (Place × Key)). length names ≤ n) (sym (names-touched now dir t)) h.most }

count_at_inode : (n : ℕ) (t : Tree) (number : Key) (f : Inode → Inode) → NamesUpTo n t → NamesUpTo n (at_inode t number f)
count_at_inode n t number f h = record { most = subst (λ (names : List (Place × Key)). length names ≤ n) (sym (names-changed_inode t number (inode_at t number) f)) h.most }

count_with_name : (n : ℕ) (t : Tree) (dir : Key) (name : List ℕ) (number : Key) → NamesUpTo n t → NamesUpTo (n + 1) (with_name t dir name number)
count_with_name n t dir name number h = record { most = omega (arith, h.most, count_put (dir, name) number t.names) }

count_without_name : (n : ℕ) (t : Tree) (dir : Key) (name : List ℕ) → NamesUpTo n t → NamesUpTo n (without_name t dir name)
count_without_name n t dir name h = record { most = omega (arith, h.most, count_where (λ p. not (eq_by_cmp place_cmp p (dir, name))) t.names) }

one_more : (n : ℕ) (t : Tree) → NamesUpTo n t → NamesUpTo (n + 1) t
one_more n t h = record { most = omega (arith, h.most) }

count_move : (n : ℕ) (t : Tree) (now : Moment) (dir : Key) (name : List ℕ) (to_dir : Key) (to_name : List ℕ) (o : Option Key) → NamesUpTo n t → NamesUpTo (n + 1) (move t now dir name to_dir to_name o)
count_move n t now dir name to_dir to_name None h = one_more n t h
count_move n t now dir name to_dir to_name (Some moved) h =
    let named = count_with_name n (without_name t dir name) to_dir to_name moved (count_without_name n t dir name h) in
    count_if (n + 1) (may_rename t moved to_dir to_name) _ t (count_touched (n + 1) now to_dir _ (count_touched (n + 1) now dir _ named)) (one_more n t h)

count_apply : (n : ℕ) (t : Tree) (now : Moment) (o : Op) → NamesUpTo n t → NamesUpTo (n + 1) (apply t now o)
count_apply n t now (op.Inode number kind mode uid gid target) h =
    count_if (n + 1) (is_some (inode_at t number)) t (with_inode t number _) (one_more n t h) (record { most = (one_more n t h).most })
count_apply n t now (op.Write number offset bytes) h = count_if (n + 1) _ _ t (count_at_inode (n + 1) t number _ (one_more n t h)) (one_more n t h)
count_apply n t now (op.Link dir name number) h = count_if (n + 1) (may_link t dir name number) _ t (count_touched (n + 1) now dir _ (count_with_name n t dir name number h)) (one_more n t h)
count_apply n t now (op.Unlink dir name) h = count_if (n + 1) _ _ t (count_touched (n + 1) now dir _ (one_more n _ (count_without_name n t dir name h))) (one_more n t h)
count_apply n t now (op.Rename dir name to_dir to_name) h = count_move n t now dir name to_dir to_name (entry t dir name) h
count_apply n t now (op.Prepare dir name verifier) h = one_more n t h
count_apply n t now (op.Cancel seq) h = one_more n t h
count_apply n t now (op.SetAttrs number change) h = count_if (n + 1) _ t _ (one_more n t h) (count_at_inode (n + 1) t number _ (one_more n t h))
count_apply n t now op.End h = one_more n t h

pub count_apply_all : (n : ℕ) (t : Tree) (ops : List (Moment × Op)) → NamesUpTo n t → NamesUpTo (n + length ops) (apply_all t ops)
count_apply_all n t [] h = record { most = omega (arith, h.most) }
count_apply_all n t (o ∷ ops) h = record { most = let all = (count_apply_all (n + 1) (apply t o.0 o.1) ops (count_apply n t o.0 o.1 h)).most in omega (arith, all) }

-- ---- inodes

abbrev InodesFit : Tree → Type 0
InodesFit t = (number : Key) (i : Inode) → inode_at t number ≡ Some i → InodeFits i

few_target : (kind : Kind) (target : List ℕ) → IsTarget kind target → length target ≤ longest_file
few_target Reg target fits = let none : target ≡ [] = fits in rw none (omega arith)
few_target Dir target fits = let none : target ≡ [] = fits in rw none (omega arith)
few_target Lnk target fits = omega (arith, fits.1)

pub length-resized : (size : ℕ) (bytes : List ℕ) → length (resized size bytes) ≡ size
length-resized size bytes = omega (arith, length-append (take size bytes) (replicate (size - length bytes) 0), length-take size bytes, length-replicate {A = ℕ} (size - length bytes) 0)

pub few_overwritten : (bytes : List ℕ) (offset : ℕ) (part : List ℕ) → length bytes ≤ longest_file → offset + length part ≤ longest_file → length (overwritten bytes offset part) ≤ longest_file
few_overwritten bytes offset part few fits = omega (
  arith,
  few,
  fits,
  length-append (resized offset bytes ++ part) (drop (offset + length part) bytes),
  length-append (resized offset bytes) part,
  length-resized offset bytes,
  length-drop (offset + length part) bytes,
)

-- the given one or the old one
given_or : {A : Type 0} (P : A → Type 0) (o : Option A) (old : A) → IfSome o P → P old → P (unwrap_or o old)
given_or P None old given kept = kept
given_or P (Some x) old given kept = given

either_moment : (b : Bool) (m n : Moment) → IsMoment m → IsMoment n → IsMoment (cond b m n)
either_moment true m n h g = h
either_moment false m n h g = g

set_fits : (now : Moment) (change : Change) (i : Inode) → IsMoment now → IsChange change → InodeFits i → InodeFits (set_attributes now change i)
set_fits now change i moment given fits = record {
  mode = given_or IsMode change.mode i.attributes.mode given.mode fits.mode;
  uid = given_or (λ n. n < 2 ^ 32) change.uid i.attributes.uid given.uid fits.uid;
  gid = given_or (λ n. n < 2 ^ 32) change.gid i.attributes.gid given.gid fits.gid;
  atime = given_or IsMoment change.atime i.attributes.atime given.atime fits.atime;
  mtime = given_or IsMoment change.mtime _ given.mtime (either_moment (is_some change.size) now i.attributes.mtime moment fits.mtime);
  ctime = moment;
  few = let size = given_or (λ n. n ≤ longest_file) change.size (length i.body) given.size fits.few in
      omega (arith, size, length-resized (unwrap_or change.size (length i.body)) i.body);
}

fits_touched : (now : Moment) (dir : Key) (t : Tree) → IsMoment now → InodesFit t → InodesFit (touched now dir t)
fits_touched now dir t moment fit = inodes_at InodeFits t dir _ fit (λ i at h. record {
  mode = h.mode;
  uid = h.uid;
  gid = h.gid;
  atime = h.atime;
  mtime = moment;
  ctime = moment;
  few = h.few;
})

fits_move : (t : Tree) (now : Moment) (dir : Key) (name : List ℕ) (to_dir : Key) (to_name : List ℕ) (o : Option Key) → IsMoment now → InodesFit t → InodesFit (move t now dir name to_dir to_name o)
fits_move t now dir name to_dir to_name None moment fit = fit
fits_move t now dir name to_dir to_name (Some moved) moment fit =
    inodes_if InodeFits (may_rename t moved to_dir to_name) _ t
    (λ may. fits_touched now to_dir _ moment (fits_touched now dir (with_name (without_name t dir name) to_dir to_name moved) moment fit)) (λ no. fit)

fits_apply : (t : Tree) (now : Moment) (o : Op) → InodesFit t → IsMoment now → OperationFits o → InodesFit (apply t now o)
fits_apply t now (op.Inode number kind mode uid gid target) fit moment fits = inodes_if InodeFits (is_some (inode_at t number)) t _ (λ there. fit) (λ free.
    inodes_with InodeFits t number _ fit (record {
      mode = fits.1;
      uid = fits.2;
      gid = fits.3;
      atime = moment;
      mtime = moment;
      ctime = moment;
      few = few_target kind target fits.4;
    }))
fits_apply t now (op.Write number offset bytes) fit moment fits = inodes_if InodeFits (is_file (inode_at t number)) _ t (λ file.
    inodes_at InodeFits t number _ fit (λ i at h. record {
      mode = h.mode;
      uid = h.uid;
      gid = h.gid;
      atime = h.atime;
      mtime = moment;
      ctime = moment;
      few = few_overwritten i.body offset bytes h.few fits.3;
    })) (λ none. fit)
fits_apply t now (op.Link dir name number) fit moment fits =
    inodes_if InodeFits (may_link t dir name number) _ t (λ may. fits_touched now dir (with_name t dir name number) moment fit) (λ no. fit)
fits_apply t now (op.Unlink dir name) fit moment fits = inodes_if InodeFits _ _ t (λ may. fits_touched now dir (without_name t dir name) moment fit) (λ no. fit)
fits_apply t now (op.Rename dir name to_dir to_name) fit moment fits = fits_move t now dir name to_dir to_name (entry t dir name) moment fit
fits_apply t now (op.Prepare dir name verifier) fit moment fits = fit
fits_apply t now (op.Cancel seq) fit moment fits = fit
fits_apply t now (op.SetAttrs number change) fit moment fits =
    inodes_if InodeFits (is_some change.size && not (is_file (inode_at t number))) t _ (λ wrong. fit) (λ free.
    inodes_at InodeFits t number (set_attributes now change) fit (λ i at h. set_fits now change i moment fits.1 h))
fits_apply t now op.End fit moment fits = fit

fits_apply_all : (t : Tree) (ops : List (Moment × Op)) → InodesFit t → AllByRecursion (λ o. IsMoment o.0 × OperationFits o.1) ops → InodesFit (apply_all t ops)
fits_apply_all t [] fit all = fit
fits_apply_all t (o ∷ ops) fit all = fits_apply_all (apply t o.0 o.1) ops (fits_apply t o.0 o.1 fit all.0.0 all.0.1) all.1

fit_at_first : InodesFit empty_tree
fit_at_first number i at = inodes_root InodeFits _ i (same_key number root_number) (record {
  mode = omega arith;
  uid = omega arith;
  gid = omega arith;
  atime = record { sec = omega arith; nsec = omega arith };
  mtime = record { sec = omega arith; nsec = omega arith };
  ctime = record { sec = omega arith; nsec = omega arith };
  few = omega arith;
}) at

-- ---- the trees that records make

operations_fit : (ops : List (Moment × Op)) → AllByRecursion (λ o. IsMoment o.0 × OperationFits o.1) ops → AllByRecursion (λ o. OperationFits o.1) ops
operations_fit [] all = tt
operations_fit (o ∷ ops) all = (all.0.1, operations_fit ops all.1)

pub records_make_trees : RecordsMakeTrees
records_make_trees ops all few =
    let fit : AllByRecursion (λ o. OperationFits o.1) ops = operations_fit ops all in
    record {
      numbers = records_make_keys ops fit;
      names = records_make_names ops fit;
      file_names = make_file_names ops fit;
      few = omega (arith, few, (count_apply_all 0 empty_tree ops (record { most = omega arith })).most);
      inodes = fits_apply_all empty_tree ops fit_at_first all;
    }

-- ---- and those of closed sets

pub effects_fit : (s : List Record) → AllByRecursion (λ r. IsMoment r.moment × OperationFits r.op) s → AllByRecursion (λ o. IsMoment o.0 × OperationFits o.1) (map effect s)
effects_fit [] all = tt
effects_fit (r ∷ s) all = (all.0, effects_fit s all.1)

pub as_many : (s : List Record) → length (map effect s) ≡ length s
as_many [] = refl
as_many (r ∷ s) = omega (arith, as_many s)

pub sets_make_trees : SetsMakeTrees
sets_make_trees view s good closed =
    let all = each_from (λ r. IsMoment r.moment × OperationFits r.op) s (λ r c. let made = good_of view s r closed c in (made.spelled.moment, made.spelled.operation)) in
    subst (λ (l : List Record). TreeFits (apply_all empty_tree (map effect l))) (sym (ascending_in_order s closed.ascending))
    (records_make_trees (map effect s) (effects_fit s all) (omega (arith, few_in_closed view s good.few closed, as_many s)))
