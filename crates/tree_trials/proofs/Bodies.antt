-- What inodes contain, which operations of records made.
use Rattle.std.proofs.Common.{◌≡◌, ℕ, ◌≤◌, true, false, not, ◌&&◌, List, [], ◌∷◌, length, Option, Some, None, refl, sym, subst, arith}
use Rattle.std.specs.Prelude.{is_some, unwrap_or, IfSome}
use Rattle.std.specs.List.{AllByRecursion}
use Rattle.ivy_base.specs.declared.key.Key.{Key}
use Rattle.ivy_base.specs.declared.operation.Change.{Change}
use Rattle.ivy_base.specs.declared.operation.Kind.{Kind}
use Rattle.ivy_base.specs.declared.operation.Kind.TheVariants.{Reg, Dir, Lnk}
use Rattle.ivy_base.specs.declared.operation.Moment.{Moment}
use Rattle.ivy_base.specs.declared.operation.Op.{Op}
use Rattle.ivy_base.specs.declared.operation.Op.TheVariants as op
use Rattle.ivy_base.specs.Naming.{root_number}
use Rattle.tree_model.specs.Tree.{Tree, Inode, entry, file_kind, inode_at, is_file, same_key, longest_file}
use Rattle.tree_model.specs.Apply.{apply, apply_all, at_inode, empty_tree, may_link, may_rename, move, overwritten, resized, set_attributes, touched, with_name, without_name}
use Rattle.tree_model.proofs.Sound.{not_false}
use Rattle.log_model.specs.Spelling.{IsMoment, IsTarget, OperationFits}
use Rattle.nfs_laws.proofs.Replays.{few_overwritten, length-resized}
use Rattle.nfs_laws.proofs.Trees.{inodes_at, inodes_if, inodes_root, inodes_with}
use Rattle.snapshot_model.specs.Reading.{IsBodyOf}

abbrev IsBodied : Inode → Type 0
IsBodied i = IsBodyOf i.kind i.body

abbrev pub AreBodied : Tree → Type 0
AreBodied t = (number : Key) (i : Inode) → inode_at t number ≡ Some i → IsBodied i

target_body : (kind : Kind) (target : List ℕ) → IsTarget kind target → IsBodyOf kind target
target_body Reg target fits = let none : target ≡ [] = fits in rw none (omega arith)
target_body Dir target fits = fits
target_body Lnk target fits = fits

file_body : (kind : Kind) (body : List ℕ) → file_kind kind ≡ true → length body ≤ longest_file → IsBodyOf kind body
file_body Reg body file few = few
file_body Dir body file few = cc file
file_body Lnk body file few = cc file

short_body : (kind : Kind) (body : List ℕ) → file_kind kind ≡ true → IsBodyOf kind body → length body ≤ longest_file
short_body Reg body file f = f
short_body Dir body file f = cc file
short_body Lnk body file f = cc file

-- a size that stays leaves what is contained
same_size : (kind : Kind) (body : List ℕ) → IsBodyOf kind body → IsBodyOf kind (resized (length body) body)
same_size Reg body f = let size = length-resized (length body) body in omega (arith, f, size)
same_size Dir body f = subst (λ (bytes : List ℕ). resized (length bytes) bytes ≡ []) (sym f) refl
same_size Lnk body f = let size = length-resized (length body) body in let some = f.0 in let few = f.1 in (omega (arith, some, size), omega (arith, few, size))

its_file : (o : Option Inode) (i : Inode) → is_file o ≡ true → o ≡ Some i → file_kind i.kind ≡ true
its_file o i file at = subst (λ (x : Option Inode). is_file x ≡ true) at file

bodied_touched : (now : Moment) (dir : Key) (t : Tree) → AreBodied t → AreBodied (touched now dir t)
bodied_touched now dir t h = inodes_at IsBodied t dir _ h (λ i at g. g)

bodied_move : (t : Tree) (now : Moment) (dir : Key) (name : List ℕ) (to_dir : Key) (to_name : List ℕ) (o : Option Key) → AreBodied t → AreBodied (move t now dir name to_dir to_name o)
bodied_move t now dir name to_dir to_name None h = h
bodied_move t now dir name to_dir to_name (Some moved) h =
    inodes_if IsBodied (may_rename t moved to_dir to_name) _ t (λ may. bodied_touched now to_dir _ (bodied_touched now dir (with_name (without_name t dir name) to_dir to_name moved) h)) (λ no. h)

bodied_attributes : (t : Tree) (now : Moment) (number : Key) (change : Change) (size : Option ℕ) → change.size ≡ size → IfSome size (λ n. n ≤ longest_file) → AreBodied t
    → (is_some size && not (is_file (inode_at t number))) ≡ false → AreBodied (at_inode t number (set_attributes now change))
bodied_attributes t now number change None e few h free = inodes_at IsBodied t number (set_attributes now change) h (λ i at g.
    subst (λ (o : Option ℕ). IsBodyOf i.kind (resized (unwrap_or o (length i.body)) i.body)) (sym e) (same_size i.kind i.body g))
bodied_attributes t now number change (Some n) e few h free = inodes_at IsBodied t number (set_attributes now change) h (λ i at g.
    let size = length-resized n i.body in
    subst (λ (o : Option ℕ). IsBodyOf i.kind (resized (unwrap_or o (length i.body)) i.body)) (sym e)
    (file_body i.kind (resized n i.body) (its_file (inode_at t number) i (not_false (is_file (inode_at t number)) free) at) (omega (arith, few, size))))

bodied_apply : (t : Tree) (now : Moment) (o : Op) → AreBodied t → OperationFits o → AreBodied (apply t now o)
bodied_apply t now (op.Inode number kind mode uid gid target) h fits = inodes_if IsBodied (is_some (inode_at t number)) t _ (λ there. h) (λ free. inodes_with IsBodied t number _ h (target_body kind target fits.4))
bodied_apply t now (op.Write number offset bytes) h fits = inodes_if IsBodied (is_file (inode_at t number)) _ t (λ file. inodes_at IsBodied t number _ h (λ i at g.
    let is = its_file (inode_at t number) i file at in
    file_body i.kind (overwritten i.body offset bytes) is (few_overwritten i.body offset bytes (short_body i.kind i.body is g) fits.3))) (λ none. h)
bodied_apply t now (op.Link dir name number) h fits = inodes_if IsBodied (may_link t dir name number) _ t (λ may. bodied_touched now dir (with_name t dir name number) h) (λ no. h)
bodied_apply t now (op.Unlink dir name) h fits = inodes_if IsBodied _ _ t (λ may. bodied_touched now dir (without_name t dir name) h) (λ no. h)
bodied_apply t now (op.Rename dir name to_dir to_name) h fits = bodied_move t now dir name to_dir to_name (entry t dir name) h
bodied_apply t now (op.Prepare dir name verifier) h fits = h
bodied_apply t now (op.Cancel seq) h fits = h
bodied_apply t now (op.SetAttrs number change) h fits =
    inodes_if IsBodied (is_some change.size && not (is_file (inode_at t number))) t _ (λ wrong. h) (λ free. bodied_attributes t now number change change.size refl fits.1.size h free)
bodied_apply t now op.End h fits = h

pub bodied_all : (t : Tree) (ops : List (Moment × Op)) → AreBodied t → AllByRecursion (λ o. IsMoment o.0 × OperationFits o.1) ops → AreBodied (apply_all t ops)
bodied_all t [] h fit = h
bodied_all t (o ∷ ops) h fit = bodied_all (apply t o.0 o.1) ops (bodied_apply t o.0 o.1 h fit.0.1) fit.1

pub bodied_first : AreBodied empty_tree
bodied_first number i at = inodes_root IsBodied _ i (same_key number root_number) refl at
