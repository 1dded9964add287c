-- The trees that closed sets of records stand for have the bounds of a snapshot's tree.
use Rattle.std.proofs.Common.{◌≡◌, ℕ, ◌+◌, ◌*◌, ◌≤◌, Bool, true, false, cond, not, ◌&&◌, List, [], ◌∷◌, length, map, Option, Some, None, refl, sym, ap, subst, arith}
use Rattle.std.specs.Prelude.{is_some, unwrap_or, IfSome, if◌then◌else◌}
use Rattle.std.specs.List.{AllByRecursion, cons_option, filter_map}
use Rattle.std.specs.declared.cmp.Ordering.{Ordering}
use Rattle.std.specs.declared.cmp.Ordering.TheVariants.{Less, Equal, Greater}
use Rattle.std.specs.FinMap.Entries.{by_order, find as value_at, put}
use Rattle.ivy_base.specs.declared.key.Key.{Key}
use Rattle.ivy_base.specs.declared.operation.Change.{Change}
use Rattle.ivy_base.specs.declared.operation.Kind.{Kind}
use Rattle.ivy_base.specs.declared.operation.Kind.TheVariants.{Reg, Dir, Lnk}
use Rattle.ivy_base.specs.declared.operation.Moment.{Moment}
use Rattle.ivy_base.specs.declared.operation.Op.{Op}
use Rattle.ivy_base.specs.declared.operation.Op.TheVariants as op
use Rattle.ivy_base.specs.Naming.{IsFileName, key_cmp, root_number}
use Rattle.tree_model.specs.Tree.{Tree, Inode, Place, entry, file_kind, inode_at, is_file, listing, same_key, longest_file}
use Rattle.tree_model.specs.Apply.{apply, apply_all, at_inode, changed_inode, empty_tree, may_link, may_rename, move, overwritten, resized, set_attributes, touched, with_inode, with_name, without_name}
use Rattle.tree_model.proofs.Applied.{records_make_sound_trees}
use Rattle.tree_model.proofs.Keys.{keys_total}
use Rattle.tree_model.proofs.Sound.{not_false}
use Rattle.log_model.specs.Closed.{IsClosed}
use Rattle.log_model.specs.Record.{Record}
use Rattle.log_model.specs.Replay.{effect, in_order, replay}
use Rattle.log_model.specs.Spelling.{IsKey, IsTarget, OperationFits}
use Rattle.log_model.specs.View.{View, IsView}
use Rattle.log_model.proofs.Later.{good_of}
use Rattle.log_model.proofs.Lists.{each_from}
use Rattle.log_model.proofs.Sets.{ascending_in_order}
use Rattle.nfs_laws.specs.Replies.{TreeFits}
use Rattle.nfs_laws.proofs.Counts.{few_in_closed}
use Rattle.nfs_laws.proofs.Replays.{as_many, count_apply_all, few_overwritten, length-resized, sets_make_trees}
use Rattle.nfs_laws.proofs.Trees.{inodes_at, inodes_if, inodes_root, inodes_with}
use Rattle.ring_model.proofs.Lists.{all_weaker}
use Rattle.snapshot_model.proofs.SortedEntries.{each_found}
use Rattle.snapshot_model.specs.Reading.{HasBounds, IsBodyOf}

-- ---- what inodes contain

abbrev IsBodied : Inode → Type 0
IsBodied i = IsBodyOf i.kind i.body

abbrev AreBodied : Tree → Type 0
AreBodied t = (number : Key) (i : Inode) → inode_at t number ≡ Some i → IsBodied i

target_body : (kind : Kind) (target : List ℕ) → IsTarget kind target → IsBodyOf kind target
target_body Reg target fits = let none : target ≡ [] = fits in rw none (omega arith)
target_body Dir target fits = fits
target_body Lnk target fits = fits

file_body : (kind : Kind) (body : List ℕ) → file_kind kind ≡ true → length body ≤ longest_file → IsBodyOf kind body
file_body Reg body file few = few
file_body Dir body file few = cc file
file_body Lnk body file few = cc file

short_body : (kind : Kind) (body : List ℕ) → file_kind kind ≡ true → IsBodyOf kind body → length body ≤ longest_file
short_body Reg body file f = f
short_body Dir body file f = cc file
short_body Lnk body file f = cc file

-- a size that stays leaves what is contained
same_size : (kind : Kind) (body : List ℕ) → IsBodyOf kind body → IsBodyOf kind (resized (length body) body)
same_size Reg body f = let size = length-resized (length body) body in omega (arith, f, size)
same_size Dir body f = subst (λ (bytes : List ℕ). resized (length bytes) bytes ≡ []) (sym f) refl
same_size Lnk body f = let size = length-resized (length body) body in let some = f.0 in let few = f.1 in (omega (arith, some, size), omega (arith, few, size))

its_file : (o : Option Inode) (i : Inode) → is_file o ≡ true → o ≡ Some i → file_kind i.kind ≡ true
its_file o i file at = subst (λ (x : Option Inode). is_file x ≡ true) at file

bodied_touched : (now : Moment) (dir : Key) (t : Tree) → AreBodied t → AreBodied (touched now dir t)
bodied_touched now dir t h = inodes_at IsBodied t dir _ h (λ i at g. g)

bodied_move : (t : Tree) (now : Moment) (dir : Key) (name : List ℕ) (to_dir : Key) (to_name : List ℕ) (o : Option Key) → AreBodied t → AreBodied (move t now dir name to_dir to_name o)
bodied_move t now dir name to_dir to_name None h = h
bodied_move t now dir name to_dir to_name (Some moved) h =
    inodes_if IsBodied (may_rename t moved to_dir to_name) _ t (λ may. bodied_touched now to_dir _ (bodied_touched now dir (with_name (without_name t dir name) to_dir to_name moved) h)) (λ no. h)

bodied_attributes : (t : Tree) (now : Moment) (number : Key) (change : Change) (size : Option ℕ) → change.size ≡ size → IfSome size (λ n. n ≤ longest_file) → AreBodied t
    → (is_some size && not (is_file (inode_at t number))) ≡ false → AreBodied (at_inode t number (set_attributes now change))
bodied_attributes t now number change None e few h free = inodes_at IsBodied t number (set_attributes now change) h (λ i at g.
    subst (λ (o : Option ℕ). IsBodyOf i.kind (resized (unwrap_or o (length i.body)) i.body)) (sym e) (same_size i.kind i.body g))
bodied_attributes t now number change (Some n) e few h free = inodes_at IsBodied t number (set_attributes now change) h (λ i at g.
    let size = length-resized n i.body in
    subst (λ (o : Option ℕ). IsBodyOf i.kind (resized (unwrap_or o (length i.body)) i.body)) (sym e)
    (file_body i.kind (resized n i.body) (its_file (inode_at t number) i (not_false (is_file (inode_at t number)) free) at) (omega (arith, few, size))))

bodied_apply : (t : Tree) (now : Moment) (o : Op) → AreBodied t → OperationFits o → AreBodied (apply t now o)
bodied_apply t now (op.Inode number kind mode uid gid target) h fits = inodes_if IsBodied (is_some (inode_at t number)) t _ (λ there. h) (λ free. inodes_with IsBodied t number _ h (target_body kind target fits.4))
bodied_apply t now (op.Write number offset bytes) h fits = inodes_if IsBodied (is_file (inode_at t number)) _ t (λ file. inodes_at IsBodied t number _ h (λ i at g.
    let is = its_file (inode_at t number) i file at in
    file_body i.kind (overwritten i.body offset bytes) is (few_overwritten i.body offset bytes (short_body i.kind i.body is g) fits.3))) (λ none. h)
bodied_apply t now (op.Link dir name number) h fits = inodes_if IsBodied (may_link t dir name number) _ t (λ may. bodied_touched now dir (with_name t dir name number) h) (λ no. h)
bodied_apply t now (op.Unlink dir name) h fits = inodes_if IsBodied _ _ t (λ may. bodied_touched now dir (without_name t dir name) h) (λ no. h)
bodied_apply t now (op.Rename dir name to_dir to_name) h fits = bodied_move t now dir name to_dir to_name (entry t dir name) h
bodied_apply t now (op.Prepare dir name verifier) h fits = h
bodied_apply t now (op.Cancel seq) h fits = h
bodied_apply t now (op.SetAttrs number change) h fits =
    inodes_if IsBodied (is_some change.size && not (is_file (inode_at t number))) t _ (λ wrong. h) (λ free. bodied_attributes t now number change change.size refl fits.1.size h free)
bodied_apply t now op.End h fits = h

bodied_all : (t : Tree) (ops : List (Moment × Op)) → AreBodied t → AllByRecursion (λ o. OperationFits o.1) ops → AreBodied (apply_all t ops)
bodied_all t [] h fit = h
bodied_all t (o ∷ ops) h fit = bodied_all (apply t o.0 o.1) ops (bodied_apply t o.0 o.1 h fit.0) fit.1

bodied_first : AreBodied empty_tree
bodied_first number i at = inodes_root IsBodied _ i (same_key number root_number) refl at

-- ---- how many inodes

count_order : (r : Ordering) (n : ℕ) (less equal greater : List (Key × Inode)) → length less ≤ n → length equal ≤ n → length greater ≤ n → length (by_order r less equal greater) ≤ n
count_order Less n less equal greater a b c = a
count_order Equal n less equal greater a b c = b
count_order Greater n less equal greater a b c = c

count_put : (k : Key) (i : Inode) (inodes : List (Key × Inode)) → length (put key_cmp k i inodes) ≤ length inodes + 1
count_put k i [] = omega arith
count_put k i (e ∷ es) = let rest = count_put k i es in count_order (key_cmp k e.0) (length (e ∷ es) + 1) _ _ _ (omega arith) (omega arith) (omega (arith, rest))

-- there are at most so many inodes
record InodesUpTo (n : ℕ) (t : Tree) : Type 0 where
  most : length t.inodes ≤ n

up_more : (n m : ℕ) (t : Tree) → n ≤ m → InodesUpTo n t → InodesUpTo m t
up_more n m t le h = record { most = let most = h.most in omega (arith, most, le) }

up_if : (n : ℕ) (b : Bool) (x y : Tree) → InodesUpTo n x → InodesUpTo n y → InodesUpTo n (cond b x y)
up_if n true x y h g = h
up_if n false x y h g = g

up_with : (n : ℕ) (t : Tree) (number : Key) (i : Inode) → InodesUpTo n t → InodesUpTo (n + 1) (with_inode t number i)
up_with n t number i h = record { most = let most = h.most in let one = count_put number i t.inodes in omega (arith, most, one) }

up_changed : (n : ℕ) (t : Tree) (number : Key) (o : Option Inode) (f : Inode → Inode) → InodesUpTo n t → InodesUpTo (n + 1) (changed_inode t number o f)
up_changed n t number None f h = up_more n (n + 1) t (omega arith) h
up_changed n t number (Some i) f h = up_with n t number (f i) h

up_at : (n : ℕ) (t : Tree) (number : Key) (f : Inode → Inode) → InodesUpTo n t → InodesUpTo (n + 1) (at_inode t number f)
up_at n t number f h = up_changed n t number (inode_at t number) f h

up_names : (n : ℕ) (t : Tree) (names : List (Place × Key)) → InodesUpTo n t → InodesUpTo n (record t { names = names })
up_names n t names h = record { most = h.most }

up_move : (n : ℕ) (t : Tree) (now : Moment) (dir : Key) (name : List ℕ) (to_dir : Key) (to_name : List ℕ) (o : Option Key) → InodesUpTo n t → InodesUpTo (n + 2) (move t now dir name to_dir to_name o)
up_move n t now dir name to_dir to_name None h = up_more n (n + 2) t (omega arith) h
up_move n t now dir name to_dir to_name (Some moved) h =
    up_if (n + 2) (may_rename t moved to_dir to_name) _ t
    (up_more (n + 1 + 1) (n + 2) _ (omega arith) (up_at (n + 1) _ to_dir _ (up_at n (with_name (without_name t dir name) to_dir to_name moved) dir _ (up_names n t (with_name (without_name t dir name) to_dir to_name moved).names h))))
    (up_more n (n + 2) t (omega arith) h)

up_apply : (n : ℕ) (t : Tree) (now : Moment) (o : Op) → InodesUpTo n t → InodesUpTo (n + 2) (apply t now o)
up_apply n t now (op.Inode number kind mode uid gid target) h =
    up_if (n + 2) (is_some (inode_at t number)) t _ (up_more n (n + 2) t (omega arith) h) (up_more (n + 1) (n + 2) _ (omega arith) (up_with n t number _ h))
up_apply n t now (op.Write number offset bytes) h = up_if (n + 2) _ _ t (up_more (n + 1) (n + 2) _ (omega arith) (up_at n t number _ h)) (up_more n (n + 2) t (omega arith) h)
up_apply n t now (op.Link dir name number) h =
    up_if (n + 2) (may_link t dir name number) _ t (up_more (n + 1) (n + 2) _ (omega arith) (up_at n (with_name t dir name number) dir _ (up_names n t (with_name t dir name number).names h))) (up_more n (n + 2) t (omega arith) h)
up_apply n t now (op.Unlink dir name) h =
    up_if (n + 2) _ _ t (up_more (n + 1) (n + 2) _ (omega arith) (up_at n (without_name t dir name) dir _ (up_names n t (without_name t dir name).names h))) (up_more n (n + 2) t (omega arith) h)
up_apply n t now (op.Rename dir name to_dir to_name) h = up_move n t now dir name to_dir to_name (entry t dir name) h
up_apply n t now (op.Prepare dir name verifier) h = up_more n (n + 2) t (omega arith) h
up_apply n t now (op.Cancel seq) h = up_more n (n + 2) t (omega arith) h
up_apply n t now (op.SetAttrs number change) h = up_if (n + 2) _ t _ (up_more n (n + 2) t (omega arith) h) (up_more (n + 1) (n + 2) _ (omega arith) (up_at n t number _ h))
up_apply n t now op.End h = up_more n (n + 2) t (omega arith) h

up_all : (n : ℕ) (t : Tree) (ops : List (Moment × Op)) → InodesUpTo n t → InodesUpTo (n + 2 * length ops) (apply_all t ops)
up_all n t [] h = up_more n (n + 2 * 0) t (omega arith) h
up_all n t (o ∷ ops) h = up_more (n + 2 + 2 * length ops) (n + 2 * length (o ∷ ops)) _ (omega arith) (up_all (n + 2) (apply t o.0 o.1) ops (up_apply n t o.0 o.1 h))

-- ---- how much a directory lists

abbrev listed_in : List (Place × Key) → Key → List (List ℕ × Key)
listed_in names dir = filter_map (λ e. if same_key dir e.0.0 then Some (e.0.1, e.1) else None) names

count_listed : (names : List (Place × Key)) (dir : Key) → length (listed_in names dir) ≤ length names
count_listed [] dir = omega arith
count_listed (e ∷ names) dir = by (same_key dir e.0.0) (count_listed names dir)
  where
    by : (b : Bool) → length (listed_in names dir) ≤ length names → length (cons_option (if b then Some (e.0.1, e.1) else None) (listed_in names dir)) ≤ length (e ∷ names)
    by true less = omega (arith, less)
    by false less = omega (arith, less)

-- ---- closed sets

-- a tree within the bounds of a snapshot's
pub record IsBounded (t : Tree) : Type 0 where
  pub inodes : AllByRecursion (λ i. IsKey i.0 × HasBounds i.1) t.inodes
  pub names : AllByRecursion (λ e. IsKey e.0.0 × IsFileName e.0.1 × IsKey e.1) t.names
  pub few : length t.inodes ≤ 134217728
  pub few_names : AllByRecursion (λ i. length (listing t i.0) ≤ 4294967296) t.inodes

both_names : (names : List (Place × Key)) → AllByRecursion (λ e. IsKey e.0.0 × IsKey e.1) names → AllByRecursion (λ e. IsFileName e.0.1) names → AllByRecursion (λ e. IsKey e.0.0 × IsFileName e.0.1 × IsKey e.1) names
both_names [] h g = tt
both_names (e ∷ names) h g = ((h.0.0, g.0, h.0.1), both_names names h.1 g.1)

operations : (s : List Record) → AllByRecursion (λ r. OperationFits r.op) s → AllByRecursion (λ (o : Moment × Op). OperationFits o.1) (map effect s)
operations [] h = tt
operations (r ∷ s) h = (h.0, operations s h.1)

-- so many inodes and names there are, by the number of records
pub inodes_most : (view : View) (s : List Record) → IsClosed view s → length (replay s).inodes ≤ 1 + 2 * length s
inodes_most view s closed = subst (λ (l : List Record). length (apply_all empty_tree (map effect l)).inodes ≤ 1 + 2 * length s) (sym (ascending_in_order s closed.ascending))
    (let most = (up_all 1 empty_tree (map effect s) (record { most = omega arith })).most in let same = as_many s in omega (arith, most, same))

pub names_most : (view : View) (s : List Record) → IsClosed view s → length (replay s).names ≤ length s
names_most view s closed = subst (λ (l : List Record). length (apply_all empty_tree (map effect l)).names ≤ length s) (sym (ascending_in_order s closed.ascending))
    (let most = (count_apply_all 0 empty_tree (map effect s) (record { most = omega arith })).most in let same = as_many s in omega (arith, most, same))

pub set_is_bounded : (view : View) (s : List Record) → IsView view → IsClosed view s → IsBounded (replay s)
set_is_bounded view s well closed = record {
  inodes = all_weaker (λ (i : Key × Inode). value_at key_cmp i.0 t.inodes ≡ Some i.1) (λ (i : Key × Inode). IsKey i.0 × HasBounds i.1) t.inodes (λ i at. (fits.numbers i.0 (ap is_some at), bounds i at))
      (each_found key_cmp keys_total t.inodes (records_make_sound_trees (map effect (in_order s))).order.inodes);
  names = both_names t.names fits.names fits.file_names;
  few = let most = inodes_most view s closed in let few = few_in_closed view s well.few closed in omega (arith, most, few);
  few_names = each_from (λ (i : Key × Inode). length (listing t i.0) ≤ 4294967296) t.inodes (λ i c.
      let listed = count_listed t.names i.0 in let most = names_most view s closed in let few = few_in_closed view s well.few closed in omega (arith, listed, most, few));
}
  where
    t : Tree
    t = replay s

    fits : TreeFits (replay s)
    fits = sets_make_trees view s well closed

    each_fits : AllByRecursion (λ r. OperationFits r.op) s
    each_fits = each_from (λ (r : Record). OperationFits r.op) s (λ r c. (good_of view s r closed c).spelled.operation)

    bodied : AreBodied (replay s)
    bodied = subst (λ (l : List Record). AreBodied (apply_all empty_tree (map effect l))) (sym (ascending_in_order s closed.ascending)) (bodied_all empty_tree (map effect s) bodied_first (operations s each_fits))

    bounds : (i : Key × Inode) → value_at key_cmp i.0 (replay s).inodes ≡ Some i.1 → HasBounds i.1
    bounds i at = let f = fits.inodes i.0 i.1 at in record {
      attributes = record { mode = f.mode; uid = f.uid; gid = f.gid; atime = f.atime; mtime = f.mtime; ctime = f.ctime };
      body = bodied i.0 i.1 at;
    }
