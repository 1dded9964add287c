-- The tree of records whose blocks are bytes has bytes: the names in it, and what its inodes contain.
use Rattle.std.proofs.Common.{◌≡◌, ℕ, ◌+◌, ◌-◌, Bool, true, false, cond, not, ◌&&◌, List, [], ◌∷◌, ◌++◌, length, take, drop, replicate, Option, Some, None, sym, subst, map}
use Rattle.std.specs.Prelude.{is_some, unwrap_or}
use Rattle.std.specs.List.{AllByRecursion}
use Rattle.std.specs.Ordering.{eq_by_cmp}
use Rattle.std.specs.declared.cmp.Ordering.{Ordering}
use Rattle.std.specs.declared.cmp.Ordering.TheVariants.{Less, Equal, Greater}
use Rattle.std.specs.FinMap.Entries.{by_order, put, where_key}
use Rattle.std.proofs.lemmas.List.{take-append-drop}
use Rattle.ivy_base.specs.declared.key.Key.{Key}
use Rattle.ivy_base.specs.declared.operation.Moment.{Moment}
use Rattle.ivy_base.specs.declared.operation.Op.{Op}
use Rattle.ivy_base.specs.declared.operation.Op.TheVariants as op
use Rattle.ivy_base.specs.Naming.{head_key_of, root_number}
use Rattle.wire_model.specs.Xdr.{array, double_word, moment, opaque, word}
use Rattle.tree_model.specs.Tree.{Inode, Place, Tree, entry, inode_at, is_file, place_cmp, same_key}
use Rattle.tree_model.specs.Apply.{apply, apply_all, at_inode, empty_tree, may_link, may_rename, move, overwritten, resized, set_attributes, touched, with_name, without_name}
use Rattle.tree_model.proofs.Names.{names-changed_inode, names-touched}
use Rattle.log_model.specs.Closed.{IsClosed}
use Rattle.log_model.specs.Record.{Record}
use Rattle.log_model.specs.Replay.{effect, replay}
use Rattle.log_model.specs.Spelling.{body, kind_number, record_block, record_kind, record_tag, vector_entry}
use Rattle.log_model.specs.View.{View}
use Rattle.log_model.proofs.Sets.{ascending_in_order}
use Rattle.nfs_laws.proofs.Trees.{inodes_at, inodes_if, inodes_root, inodes_with}
use Rattle.turn_laws.proofs.Octets.{AreOctets, HasOctets, joined, left_octets, no_octets, of_opaque, right_octets, take_each, zeros}

-- ---- records

op_octets : (o : Op) → AreOctets (body o) → HasOctets o
op_octets (op.Inode number kind mode uid gid target) h = of_opaque target (right_octets (number.0 ++ word (kind_number kind) ++ word mode ++ word uid ++ word gid) (opaque target) h)
op_octets (op.Write number offset bytes) h = of_opaque bytes (right_octets (number.0 ++ double_word offset) (opaque bytes) h)
op_octets (op.Link dir name number) h = of_opaque name (right_octets dir.0 (opaque name) (left_octets (dir.0 ++ opaque name) number.0 h))
op_octets (op.Unlink dir name) h = of_opaque name (right_octets dir.0 (opaque name) h)
op_octets (op.Rename dir name to_dir to_name) h = (
  of_opaque name (right_octets dir.0 (opaque name) (left_octets (dir.0 ++ opaque name) to_dir.0 (left_octets (dir.0 ++ opaque name ++ to_dir.0) (opaque to_name) h))),
  of_opaque to_name (right_octets (dir.0 ++ opaque name ++ to_dir.0) (opaque to_name) h),
)
op_octets (op.Prepare dir name verifier) h = of_opaque name (right_octets dir.0 (opaque name) (left_octets (dir.0 ++ opaque name) verifier h))
op_octets (op.Cancel seq) h = tt
op_octets (op.SetAttrs number change) h = tt
op_octets op.End h = tt

-- the operation of a record whose block is bytes has bytes
pub record_octets : (r : Record) → AreOctets (record_block r) → HasOctets r.op
record_octets r h = op_octets r.op (right_octets (record_tag r.format ++ word (record_kind r.op) ++ (head_key_of r.owner).0 ++ r.prev.0 ++ word r.seq ++ moment r.moment ++ array vector_entry r.vector) (body r.op) h)

-- ---- what inodes contain

abbrev HasBytes : Inode → Type 0
HasBytes i = AreOctets i.body

abbrev HaveBytes : Tree → Type 0
HaveBytes t = (number : Key) (i : Inode) → inode_at t number ≡ Some i → HasBytes i

resized_octets : (size : ℕ) (bytes : List ℕ) → AreOctets bytes → AreOctets (resized size bytes)
resized_octets size bytes h = joined {a = take size bytes} {b = replicate (size - length bytes) 0} (record { each = take_each size bytes h.each }) (record { each = zeros (size - length bytes) })

pub dropped_octets : (n : ℕ) (bytes : List ℕ) → AreOctets bytes → AreOctets (drop n bytes)
dropped_octets n bytes h = right_octets (take n bytes) (drop n bytes) (subst AreOctets (sym (take-append-drop n bytes)) h)

overwritten_octets : (bytes : List ℕ) (offset : ℕ) (part : List ℕ) → AreOctets bytes → AreOctets part → AreOctets (overwritten bytes offset part)
overwritten_octets bytes offset part h g =
    joined {a = resized offset bytes ++ part} {b = drop (offset + length part) bytes} (joined {a = resized offset bytes} {b = part} (resized_octets offset bytes h) g) (dropped_octets (offset + length part) bytes h)

bytes_touched : (now : Moment) (dir : Key) (t : Tree) → HaveBytes t → HaveBytes (touched now dir t)
bytes_touched now dir t h = inodes_at HasBytes t dir _ h (λ i at g. g)

bytes_move : (t : Tree) (now : Moment) (dir : Key) (name : List ℕ) (to_dir : Key) (to_name : List ℕ) (o : Option Key) → HaveBytes t → HaveBytes (move t now dir name to_dir to_name o)
bytes_move t now dir name to_dir to_name None h = h
bytes_move t now dir name to_dir to_name (Some moved) h =
    inodes_if HasBytes (may_rename t moved to_dir to_name) _ t (λ may. bytes_touched now to_dir _ (bytes_touched now dir (with_name (without_name t dir name) to_dir to_name moved) h)) (λ no. h)

bytes_apply : (t : Tree) (now : Moment) (o : Op) → HaveBytes t → HasOctets o → HaveBytes (apply t now o)
bytes_apply t now (op.Inode number kind mode uid gid target) h octets = inodes_if HasBytes (is_some (inode_at t number)) t _ (λ there. h) (λ free. inodes_with HasBytes t number _ h octets)
bytes_apply t now (op.Write number offset bytes) h octets = inodes_if HasBytes (is_file (inode_at t number)) _ t (λ file. inodes_at HasBytes t number _ h (λ i at g. overwritten_octets i.body offset bytes g octets)) (λ none. h)
bytes_apply t now (op.Link dir name number) h octets = inodes_if HasBytes (may_link t dir name number) _ t (λ may. bytes_touched now dir (with_name t dir name number) h) (λ no. h)
bytes_apply t now (op.Unlink dir name) h octets = inodes_if HasBytes _ _ t (λ may. bytes_touched now dir (without_name t dir name) h) (λ no. h)
bytes_apply t now (op.Rename dir name to_dir to_name) h octets = bytes_move t now dir name to_dir to_name (entry t dir name) h
bytes_apply t now (op.Prepare dir name verifier) h octets = h
bytes_apply t now (op.Cancel seq) h octets = h
bytes_apply t now (op.SetAttrs number change) h octets =
    inodes_if HasBytes (is_some change.size && not (is_file (inode_at t number))) t _ (λ wrong. h) (λ free. inodes_at HasBytes t number (set_attributes now change) h (λ i at g. resized_octets (unwrap_or change.size (length i.body)) i.body g))
bytes_apply t now op.End h octets = h

bytes_all : (t : Tree) (ops : List (Moment × Op)) → HaveBytes t → AllByRecursion (λ o. HasOctets o.1) ops → HaveBytes (apply_all t ops)
bytes_all t [] h all = h
bytes_all t (o ∷ ops) h all = bytes_all (apply t o.0 o.1) ops (bytes_apply t o.0 o.1 h all.0) all.1

bytes_first : HaveBytes empty_tree
bytes_first number i at = inodes_root HasBytes _ i (same_key number root_number) no_octets at

-- ---- names

abbrev IsNamed : Place × Key → Type 0
IsNamed e = AreOctets e.0.1

abbrev pub AreNamed : List (Place × Key) → Type 0
AreNamed names = AllByRecursion IsNamed names

named_by_order : (r : Ordering) (less equal greater : List (Place × Key)) → AreNamed less → AreNamed equal → AreNamed greater → AreNamed (by_order r less equal greater)
named_by_order Less less equal greater a b c = a
named_by_order Equal less equal greater a b c = b
named_by_order Greater less equal greater a b c = c

named_put : (p : Place) (number : Key) (names : List (Place × Key)) → AreOctets p.1 → AreNamed names → AreNamed (put place_cmp p number names)
named_put p number [] place named = (place, tt)
named_put p number (e ∷ es) place named = named_by_order (place_cmp p e.0) _ _ _ (place, named) (named.0, named.1) (named.0, named_put p number es place named.1)

named_where : (test : Place → Bool) (names : List (Place × Key)) → AreNamed names → AreNamed (where_key place_cmp test names)
named_where test [] named = tt
named_where test (e ∷ es) named = by (test e.0) (named_where test es named.1)
  where
    by : (b : Bool) → AreNamed (where_key place_cmp test es) → AreNamed (cond b (e ∷ where_key place_cmp test es) (where_key place_cmp test es))
    by true again = (named.0, again)
    by false again = again

either : (b : Bool) (x y : Tree) → AreNamed x.names → AreNamed y.names → AreNamed (cond b x y).names
either true x y h g = h
either false x y h g = g

named_touched : (now : Moment) (dir : Key) (t : Tree) → AreNamed t.names → AreNamed (touched now dir t).names
named_touched now dir t named = subst AreNamed (sym (names-touched now dir t)) named

named_at_inode : (t : Tree) (number : Key) (f : Inode → Inode) → AreNamed t.names → AreNamed (at_inode t number f).names
named_at_inode t number f named = subst AreNamed (sym (names-changed_inode t number (inode_at t number) f)) named

named_move : (t : Tree) (now : Moment) (dir : Key) (name : List ℕ) (to_dir : Key) (to_name : List ℕ) (o : Option Key) → AreNamed t.names → AreOctets to_name → AreNamed (move t now dir name to_dir to_name o).names
named_move t now dir name to_dir to_name None named to = named
named_move t now dir name to_dir to_name (Some number) named to =
    let left : Tree = without_name t dir name in
    let put_there = named_put (to_dir, to_name) number left.names to (named_where (λ p. not (eq_by_cmp place_cmp p (dir, name))) t.names named) in
    either (may_rename t number to_dir to_name) _ t (named_touched now to_dir _ (named_touched now dir (with_name left to_dir to_name number) put_there)) named

named_apply : (t : Tree) (now : Moment) (o : Op) → AreNamed t.names → HasOctets o → AreNamed (apply t now o).names
named_apply t now (op.Inode number kind mode uid gid text) named octets = either (is_some (inode_at t number)) t _ named named
named_apply t now (op.Write number offset bytes) named octets = either _ _ t (named_at_inode t number _ named) named
named_apply t now (op.Link dir name number) named octets = either (may_link t dir name number) _ t (named_touched now dir (with_name t dir name number) (named_put (dir, name) number t.names octets named)) named
named_apply t now (op.Unlink dir name) named octets = either _ _ t (named_touched now dir (without_name t dir name) (named_where (λ p. not (eq_by_cmp place_cmp p (dir, name))) t.names named)) named
named_apply t now (op.Rename dir name to_dir to_name) named octets = named_move t now dir name to_dir to_name (entry t dir name) named octets.1
named_apply t now (op.Prepare dir name verifier) named octets = named
named_apply t now (op.Cancel seq) named octets = named
named_apply t now (op.SetAttrs number change) named octets = either _ t _ named (named_at_inode t number _ named)
named_apply t now op.End named octets = named

named_all : (t : Tree) (ops : List (Moment × Op)) → AreNamed t.names → AllByRecursion (λ o. HasOctets o.1) ops → AreNamed (apply_all t ops).names
named_all t [] named all = named
named_all t (o ∷ ops) named all = named_all (apply t o.0 o.1) ops (named_apply t o.0 o.1 named all.0) all.1

-- ---- closed sets

operations : (s : List Record) → AllByRecursion (λ r. HasOctets r.op) s → AllByRecursion (λ (o : Moment × Op). HasOctets o.1) (map effect s)
operations [] h = tt
operations (r ∷ s) h = (h.0, operations s h.1)

-- so it is of the tree that a closed set stands for
pub record IsOfBytes (t : Tree) : Type 0 where
  pub inodes : HaveBytes t
  pub names : AreNamed t.names

pub set_is_of_bytes : (view : View) (s : List Record) → IsClosed view s → AllByRecursion (λ r. HasOctets r.op) s → IsOfBytes (replay s)
set_is_of_bytes view s closed all = subst (λ (l : List Record). IsOfBytes (apply_all empty_tree (map effect l))) (sym (ascending_in_order s closed.ascending)) (record {
  inodes = bytes_all empty_tree (map effect s) bytes_first (operations s all);
  names = named_all empty_tree (map effect s) tt (operations s all);
})
