-- The inodes of a tree that records make have keys as their numbers.
use Rattle.std.proofs.Common.{◌≡◌, ℕ, Bool, true, false, cond, List, [], ◌∷◌, Option, Some, None, refl, sym, ap, subst}
use Rattle.std.specs.Prelude.{is_some}
use Rattle.std.specs.List.{AllByRecursion}
use Rattle.ivy_base.specs.declared.key.Key.{Key}
use Rattle.ivy_base.specs.declared.operation.Moment.{Moment}
use Rattle.ivy_base.specs.declared.operation.Op.{Op}
use Rattle.ivy_base.specs.declared.operation.Op.TheVariants as op
use Rattle.ivy_base.specs.Naming.{root_number}
use Rattle.tree_model.specs.Tree.{Tree, Inode, inode_at, entry, same_key}
use Rattle.tree_model.specs.Apply.{apply, apply_all, empty_tree, with_inode, changed_inode, at_inode, touched, move}
use Rattle.tree_model.proofs.Keys.{same_key_is}
use Rattle.tree_model.proofs.Names.{inode_at-with_inode}
use Rattle.log_model.specs.Spelling.{IsKey, OperationFits}
use Rattle.log_model.specs.Laws.{NumbersAreKeys, RecordsMakeKeys}

either : (b : Bool) (x y : Tree) → NumbersAreKeys x → NumbersAreKeys y → NumbersAreKeys (cond b x y)
either true x y h g = h
either false x y h g = g

keys_with_inode : (t : Tree) (number : Key) (i : Inode) → NumbersAreKeys t → IsKey number → NumbersAreKeys (with_inode t number i)
keys_with_inode t number i keys key k some = by (same_key k number) refl (subst (λ (o : Option Inode). is_some o ≡ true) (inode_at-with_inode t number i k) some)
  where
    by : (b : Bool) → same_key k number ≡ b → is_some (cond b (Some i) (inode_at t k)) ≡ true → IsKey k
    by true e h = subst (λ (x : Key). IsKey x) (sym (same_key_is k number e)) key
    by false e h = keys k h

keys_changed : (t : Tree) (number : Key) (o : Option Inode) (f : Inode → Inode) → inode_at t number ≡ o → NumbersAreKeys t → NumbersAreKeys (changed_inode t number o f)
keys_changed t number None f e keys = keys
keys_changed t number (Some i) f e keys = keys_with_inode t number (f i) keys (keys number (ap is_some e))

keys_at_inode : (t : Tree) (number : Key) (f : Inode → Inode) → NumbersAreKeys t → NumbersAreKeys (at_inode t number f)
keys_at_inode t number f keys = keys_changed t number (inode_at t number) f refl keys

keys_touched : (now : Moment) (dir : Key) (t : Tree) → NumbersAreKeys t → NumbersAreKeys (touched now dir t)
keys_touched now dir t keys = keys_at_inode t dir _ keys

keys_move : (t : Tree) (now : Moment) (dir : Key) (name : List ℕ) (to_dir : Key) (to_name : List ℕ) (o : Option Key) → NumbersAreKeys t → NumbersAreKeys (move t now dir name to_dir to_name o)
keys_move t now dir name to_dir to_name None keys = keys
keys_move t now dir name to_dir to_name (Some moved) keys = either _ _ t (keys_touched now to_dir _ (keys_touched now dir _ keys)) keys

keys_apply : (t : Tree) (now : Moment) (o : Op) → NumbersAreKeys t → OperationFits o → NumbersAreKeys (apply t now o)
keys_apply t now (op.Inode number kind mode uid gid target) keys fits = either (is_some (inode_at t number)) t _ keys (keys_with_inode t number _ keys fits.0)
keys_apply t now (op.Write number offset bytes) keys fits = either _ _ t (keys_at_inode t number _ keys) keys
keys_apply t now (op.Link dir name number) keys fits = either _ _ t (keys_touched now dir _ keys) keys
keys_apply t now (op.Unlink dir name) keys fits = either _ _ t (keys_touched now dir _ keys) keys
keys_apply t now (op.Rename dir name to_dir to_name) keys fits = keys_move t now dir name to_dir to_name (entry t dir name) keys
keys_apply t now (op.Prepare dir name verifier) keys fits = keys
keys_apply t now (op.Cancel seq) keys fits = keys
keys_apply t now (op.SetAttrs number change) keys fits = either _ t _ keys (keys_at_inode t number _ keys)
keys_apply t now op.End keys fits = keys

pub keys_apply_all : (t : Tree) (ops : List (Moment × Op)) → NumbersAreKeys t → AllByRecursion (λ o. OperationFits o.1) ops → NumbersAreKeys (apply_all t ops)
keys_apply_all t [] keys fit = keys
keys_apply_all t (o ∷ ops) keys fit = keys_apply_all (apply t o.0 o.1) ops (keys_apply t o.0 o.1 keys fit.0) fit.1

only_root : (k : Key) (i : Inode) (b : Bool) → same_key k root_number ≡ b → is_some (cond b (Some i) None) ≡ true → IsKey k
only_root k i true e h = subst (λ (x : Key). IsKey x) (sym (same_key_is k root_number e)) (record { size = refl; each = refl })
only_root k i false e h = cc

keys_of_nothing : NumbersAreKeys empty_tree
keys_of_nothing k some = only_root k _ (same_key k root_number) refl some

pub records_make_keys : RecordsMakeKeys
records_make_keys ops fit = keys_apply_all empty_tree ops keys_of_nothing fit
