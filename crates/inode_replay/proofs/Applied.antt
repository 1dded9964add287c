-- What an operation makes of an inode is what `apply` makes of it in a tree.
use Rattle.std.proofs.Common.{◌≡◌, ℕ, List, [], ◌∷◌, Option, Some, None, Bool, true, false, cond, not, ◌&&◌, is_some, length, replicate, option_map, refl, sym, ap, ◌∙◌}
use Rattle.std.specs.declared.cmp.Ordering.{Ordering}
use Rattle.std.specs.declared.cmp.Ordering.TheVariants.{Less, Equal, Greater}
use Rattle.std.specs.Ordering.{is_eq, is_lt}
use Rattle.std.specs.FinMap.Entries.{find as value_at, put, by_order, below_all, is_sorted}
use Rattle.ivy_base.specs.declared.key.Key.{Key}
use Rattle.ivy_base.specs.declared.operation.Kind.{Kind}
use Rattle.ivy_base.specs.declared.operation.Moment.{Moment}
use Rattle.ivy_base.specs.declared.operation.Change.{Change}
use Rattle.ivy_base.specs.declared.operation.Op.{Op}
use Rattle.ivy_base.specs.declared.operation.Op.TheVariants as op
use Rattle.ivy_base.specs.Naming.{key_cmp}
use Rattle.tree_model.specs.Tree.{Tree, Inode, IsInOrder, inode_at, is_file, file_kind}
use Rattle.tree_model.specs.Apply.{with_inode, changed_inode, at_inode, set_attributes, touched, apply}
use Rattle.tree_model.proofs.Keys.{keys_total}
use Rattle.tree_model.proofs.Sound.{both_true}
use Rattle.inode_replay.specs.Contents.{new_inode, made, changed, written, touched_inode}
use Rattle.inode_replay.specs.Kept.{Kept, made_kept}

-- ---- the inode that is there changes nothing

less_is : (r : Ordering) → is_lt r ≡ true → r ≡ Less
less_is Less h = refl
less_is Equal h = cc
less_is Greater h = cc

both : (a b : Bool) → a ≡ true → b ≡ true → (a && b) ≡ true
both a b p q = rw (p, q) refl

below_further : (k l : Key) (es : List (Key × Inode)) → key_cmp k l ≡ Less → below_all key_cmp l es ≡ true → below_all key_cmp k es ≡ true
below_further k l [] less below = refl
below_further k l (e ∷ es) less below =
    let h = both_true (is_lt (key_cmp l e.0)) (below_all key_cmp l es) below in
    both (is_lt (key_cmp k e.0)) (below_all key_cmp k es) (ap is_lt (keys_total.trans k l e.0 less (less_is _ h.0))) (below_further k l es less h.1)

not_below : (k : Key) (es : List (Key × Inode)) → below_all key_cmp k es ≡ true → value_at key_cmp k es ≡ None
not_below k [] below = refl
not_below k (e ∷ es) below =
    let h = both_true (is_lt (key_cmp k e.0)) (below_all key_cmp k es) below in
    ap (λ r. cond (is_eq r) (Some e.1) (value_at key_cmp k es)) (less_is _ h.0) ∙ not_below k es h.1

put_there : (k : Key) (i : Inode) (es : List (Key × Inode)) → is_sorted key_cmp es ≡ true → value_at key_cmp k es ≡ Some i → put key_cmp k i es ≡ es
put_there k i [] sorted there = cc
put_there k i (e ∷ es) sorted there =
    let h = both_true (below_all key_cmp e.0 es) (is_sorted key_cmp es) sorted in
    by (λ less. not_below k es (below_further k e.0 es less h.0)) (put_there k i es h.1) (key_cmp k e.0) refl there
  where
    by : (key_cmp k e.0 ≡ Less → value_at key_cmp k es ≡ None) → (value_at key_cmp k es ≡ Some i → put key_cmp k i es ≡ es) → (r : Ordering) → key_cmp k e.0 ≡ r → cond (is_eq r) (Some e.1) (value_at key_cmp k es) ≡ Some i → by_order r ((k, i) ∷ e ∷ es) ((e.0, i) ∷ es) (e ∷ put key_cmp k i es) ≡ e ∷ es
    by missed again Less is found = let none = missed is in cc
    by missed again Equal is found = let same : i ≡ e.1 = cc in ap (λ j. (e.0, j) ∷ es) same
    by missed again Greater is found = ap (λ l. e ∷ l) (again found)

pub with_inode-there : (t : Tree) (number : Key) (i : Inode) → IsInOrder t → inode_at t number ≡ Some i → with_inode t number i ≡ t
with_inode-there t number i order there = ap (λ l. record t { inodes = l }) (put_there number i t.inodes order.inodes there)

-- ---- one operation

-- a new inode has the number that is free, and another one changes nothing
module _ (t : Tree) (now : Moment) (number : Key) (kind : Kind) (mode uid gid : ℕ) (target : List ℕ) where
  pub inode-free : (i : Inode) → inode_at t number ≡ None → made now (op.Inode number kind mode uid gid target) ≡ Some i → apply t now (op.Inode number kind mode uid gid target) ≡ with_inode t number i
  inode-free i free is =
      let new : new_inode now kind mode uid gid target ≡ i = cc in
      ap (λ o. cond (is_some o) t (with_inode t number (new_inode now kind mode uid gid target))) free ∙ ap (with_inode t number) new

  pub inode-used : (i : Inode) → inode_at t number ≡ Some i → apply t now (op.Inode number kind mode uid gid target) ≡ t
  inode-used i used = ap (λ o. cond (is_some o) t (with_inode t number (new_inode now kind mode uid gid target))) used

-- an operation on an inode leaves in the tree what `changed` makes of it, and the tree where there is none
module _ (t : Tree) (order : IsInOrder t) (now : Moment) (number : Key) where
  kept_if : (b : Bool) (i j : Inode) → inode_at t number ≡ Some i → cond b (with_inode t number j) t ≡ with_inode t number (cond b j i)
  kept_if true i j there = refl
  kept_if false i j there = sym (with_inode-there t number i order there)

  kept_unless : (b : Bool) (i j : Inode) → inode_at t number ≡ Some i → cond b t (with_inode t number j) ≡ with_inode t number (cond b i j)
  kept_unless true i j there = sym (with_inode-there t number i order there)
  kept_unless false i j there = refl

  module _ (offset : ℕ) (bytes : List ℕ) where
    write_by : (o : Option Inode) → inode_at t number ≡ o → cond (is_file o) (changed_inode t number o (written now offset bytes)) t ≡ changed_inode t number o (changed now (op.Write number offset bytes))
    write_by None is = refl
    write_by (Some i) is = kept_if (file_kind i.kind) i (written now offset bytes i) is

    pub write-at : apply t now (op.Write number offset bytes) ≡ at_inode t number (changed now (op.Write number offset bytes))
    write-at = write_by (inode_at t number) refl

    pub write-some : (i : Inode) → inode_at t number ≡ Some i → apply t now (op.Write number offset bytes) ≡ with_inode t number (changed now (op.Write number offset bytes) i)
    write-some i there = write-at ∙ ap (λ o. changed_inode t number o (changed now (op.Write number offset bytes))) there

    pub write-none : inode_at t number ≡ None → apply t now (op.Write number offset bytes) ≡ t
    write-none missing = write-at ∙ ap (λ o. changed_inode t number o (changed now (op.Write number offset bytes))) missing

  module _ (change : Change) where
    attributes_without : (b : Bool) → cond (b && true) t t ≡ t
    attributes_without true = refl
    attributes_without false = refl

    attributes_by : (o : Option Inode) → inode_at t number ≡ o → cond (is_some change.size && not (is_file o)) t (changed_inode t number o (set_attributes now change)) ≡ changed_inode t number o (changed now (op.SetAttrs number change))
    attributes_by None is = attributes_without (is_some change.size)
    attributes_by (Some i) is = kept_unless (is_some change.size && not (file_kind i.kind)) i (set_attributes now change i) is

    pub attributes-at : apply t now (op.SetAttrs number change) ≡ at_inode t number (changed now (op.SetAttrs number change))
    attributes-at = attributes_by (inode_at t number) refl

    pub attributes-some : (i : Inode) → inode_at t number ≡ Some i → apply t now (op.SetAttrs number change) ≡ with_inode t number (changed now (op.SetAttrs number change) i)
    attributes-some i there = attributes-at ∙ ap (λ o. changed_inode t number o (changed now (op.SetAttrs number change))) there

    pub attributes-none : inode_at t number ≡ None → apply t now (op.SetAttrs number change) ≡ t
    attributes-none missing = attributes-at ∙ ap (λ o. changed_inode t number o (changed now (op.SetAttrs number change))) missing

-- a change of a directory's entries
pub touched-at : (t : Tree) (now : Moment) (dir : Key) → touched now dir t ≡ at_inode t dir (touched_inode now)
touched-at t now dir = refl

-- ---- the kind stays

kind-if : (b : Bool) (i j : Inode) → j.kind ≡ i.kind → (cond b j i).kind ≡ i.kind
kind-if true i j same = same
kind-if false i j same = refl

kind-unless : (b : Bool) (i j : Inode) → j.kind ≡ i.kind → (cond b i j).kind ≡ i.kind
kind-unless true i j same = refl
kind-unless false i j same = same

pub kind-changed : (now : Moment) (o : Op) (i : Inode) → (changed now o i).kind ≡ i.kind
kind-changed now (op.Inode number kind mode uid gid target) i = refl
kind-changed now (op.Write number offset bytes) i = kind-if (file_kind i.kind) i (written now offset bytes i) refl
kind-changed now (op.Link dir name number) i = refl
kind-changed now (op.Unlink dir name) i = refl
kind-changed now (op.Rename dir name to_dir to_name) i = refl
kind-changed now (op.Prepare dir name verifier) i = refl
kind-changed now (op.Cancel seq) i = refl
kind-changed now (op.SetAttrs number change) i = kind-unless (is_some change.size && not (file_kind i.kind)) i (set_attributes now change i) refl
kind-changed now op.End i = refl

-- ---- without its places

-- what is made with its places is what is made
pub made-inode : (now : Moment) (o : Op) (k : Kept) → made_kept now o ≡ Some k → made now o ≡ Some k.inode
made-inode now o k is = by (made now o) is
  where
    by : (m : Option Inode) → option_map (λ i. record { inode = i; written = replicate (length i.body) false }) m ≡ Some k → m ≡ Some k.inode
    by None is = cc
    by (Some i) is = cc
