-- The blocks of records that are planned for a call are bytes, where the call's arguments are.
use Rattle.std.proofs.Common.{◌≡◌, ℕ, zero, suc, ◌/◌, ◌%◌, Bool, true, false, cond, List, [], ◌∷◌, ◌++◌, length, take, Option, Some, None, Result, Ok, Err, refl, sym, ◌∙◌, subst, arith, ◌≤◌, ◌<◌, not, ◌+◌}
use Rattle.std.specs.Prelude.{◌-◌, ◌^◌, flat_map, replicate, nat_lt, ◌||◌, ◌&&◌, ◌==◌, is_some, nat_le}
use Rattle.std.specs.List.{AllByRecursion, list_all}
use Rattle.std.proofs.lemmas.Bool.{lt-ltb}
use Rattle.std.proofs.lemmas.List.Folds.{list_all-append}
use Rattle.ivy_base.proofs.NameLemmas.{bytes-digest}
use Rattle.ivy_base.specs.declared.format.Format.{Format}
use Rattle.ivy_base.specs.declared.format.Format.TheVariants.{One, Two}
use Rattle.ivy_base.specs.declared.key.Key.{Key}
use Rattle.ivy_base.specs.declared.key.PubKey.{PubKey}
use Rattle.ivy_base.specs.declared.operation.Change.{Change}
use Rattle.ivy_base.specs.declared.operation.Moment.{Moment}
use Rattle.ivy_base.specs.declared.operation.Op.{Op}
use Rattle.ivy_base.specs.declared.operation.Op.TheVariants as op
use Rattle.ivy_base.specs.Naming.{inode_number}
use Rattle.tree_model.specs.Tree.{Tree, entry, directory_kind, is_file, file_kind, is_directory, name_count, longest_file}
use Rattle.tree_model.proofs.Sound.{both_true}
use Rattle.wire_model.specs.Rpc.{Identity}
use Rattle.wire_model.specs.Xdr.{boolean, double_word, moment, opaque, optional, padding, word}
use Rattle.log_model.specs.Record.{Record}
use Rattle.log_model.specs.Spelling.{HasSpelling, IsKey, OperationFits, body, kind_number, record_block, record_kind, vector_entry, record_tag}
use Rattle.log_model.specs.Vector.{Vector}
use Rattle.log_model.specs.View.{View}
use Rattle.log_model.proofs.Lists.{both}
use Rattle.nfs_model.specs.Arguments.{arguments, set_what, create_how}
use Rattle.nfs_model.specs.Changing.{Nothing, Operations, Plan, Refuse, plan_about, plan, plan_create, plan_file, plan_file_at, plan_rename_between, plan_unless, directory_checks, name_checks, invalid_times, too_large, inode_under, may_cut, may_change, same_target, move_checks, is_empty_under, set_attribute_checks, taken}
use Rattle.nfs_model.specs.Checks.{Check, is_dot, is_dot_dot}
use Rattle.nfs_model.specs.Objects.{Object, object_of, may_write, is_owner}
use Rattle.nfs_model.specs.declared.arguments.Args.{Args}
use Rattle.nfs_model.specs.declared.arguments.Args.TheVariants as call
use Rattle.nfs_model.specs.declared.arguments.How.{How}
use Rattle.nfs_model.specs.declared.arguments.How.TheVariants.{Unchecked, Guarded, Exclusive}
use Rattle.nfs_model.specs.declared.arguments.SetWhat.{SetWhat}
use Rattle.nfs_model.specs.declared.replies.NfsStatus.{NfsStatus}
use Rattle.nfs_model.specs.declared.replies.Tail.{Tail}
use Rattle.nfs_model.specs.declared.replies.NfsStatus.TheVariants.{Acces, Exist, Inval, NoEnt, NotDir, FBig, IsDir, MLink, NameTooLong, NotEmpty, NotSupp}

abbrev pub is_octet : ℕ → Bool
is_octet b = nat_lt b 256

-- all of them are bytes
pub record AreOctets (bytes : List ℕ) : Type 0 where
  pub each : list_all is_octet bytes ≡ true

-- ---- parts

pub joined : {a b : List ℕ} → AreOctets a → AreOctets b → AreOctets (a ++ b)
joined {a} {b} f g = record { each = list_all-append is_octet a b ∙ both (list_all is_octet a) (list_all is_octet b) f.each g.each }

pub left_octets : (a b : List ℕ) → AreOctets (a ++ b) → AreOctets a
left_octets a b h = record { each = (both_true (list_all is_octet a) (list_all is_octet b) (sym (list_all-append is_octet a b) ∙ h.each)).0 }

pub right_octets : (a b : List ℕ) → AreOctets (a ++ b) → AreOctets b
right_octets a b h = record { each = (both_true (list_all is_octet a) (list_all is_octet b) (sym (list_all-append is_octet a b) ∙ h.each)).1 }

pub no_octets : AreOctets []
no_octets = record { each = refl }

pub take_each : (n : ℕ) (bytes : List ℕ) → list_all is_octet bytes ≡ true → list_all is_octet (take n bytes) ≡ true
take_each zero bytes h = refl
take_each (suc n) [] h = refl
take_each (suc n) (b ∷ bytes) h = let parts = both_true (is_octet b) (list_all is_octet bytes) h in both (is_octet b) (list_all is_octet (take n bytes)) parts.0 (take_each n bytes parts.1)

pub zeros : (n : ℕ) → list_all is_octet (replicate n 0) ≡ true
zeros zero = refl
zeros (suc n) = zeros n

last_octet : (n : ℕ) → is_octet (n % 256) ≡ true
last_octet n = lt-ltb (n % 256) 256 (omega arith)

pub a_word : (n : ℕ) → AreOctets (word n)
a_word n = record { each = both _ _ (last_octet (n / 16777216)) (both _ _ (last_octet (n / 65536)) (both _ _ (last_octet (n / 256)) (both _ _ (last_octet n) refl))) }

pub a_double_word : (n : ℕ) → AreOctets (double_word n)
a_double_word n = record {
  each = both _ _ (last_octet (n / 72057594037927936)) (both _ _ (last_octet (n / 281474976710656)) (both _ _ (last_octet (n / 1099511627776)) (both _ _ (last_octet (n / 4294967296))
      (both _ _ (last_octet (n / 16777216)) (both _ _ (last_octet (n / 65536)) (both _ _ (last_octet (n / 256)) (both _ _ (last_octet n) refl)))))));
}

a_moment : (m : Moment) → AreOctets (moment m)
a_moment m = joined (a_word m.sec) (a_word m.nsec)

pub an_opaque : (bytes : List ℕ) → AreOctets bytes → AreOctets (opaque bytes)
an_opaque bytes h = joined (a_word (length bytes)) (joined h (record { each = zeros ((4 - length bytes % 4) % 4) }))

pub of_opaque : (bytes : List ℕ) → AreOctets (opaque bytes) → AreOctets bytes
of_opaque bytes h = left_octets bytes (padding (length bytes)) (right_octets (word (length bytes)) (bytes ++ padding (length bytes)) h)

an_option : {A : Type 0} (item : A → List ℕ) (o : Option A) → ((x : A) → AreOctets (item x)) → AreOctets (optional item o)
an_option item None h = a_word 0
an_option item (Some x) h = joined {a = boolean true} {b = item x} (a_word 1) (h x)

a_key : (k : Key) → IsKey k → AreOctets k.0
a_key k h = record { each = h.each }

-- ---- blocks of records

-- what the operation has of names, texts and data
abbrev pub HasOctets : Op → Type 0
HasOctets (op.Inode number kind mode uid gid target) = AreOctets target
HasOctets (op.Write number offset bytes) = AreOctets bytes
HasOctets (op.Link dir name number) = AreOctets name
HasOctets (op.Unlink dir name) = AreOctets name
HasOctets (op.Rename dir name to_dir to_name) = AreOctets name × AreOctets to_name
HasOctets (op.Prepare dir name verifier) = AreOctets name
HasOctets (op.Cancel seq) = Unit {0}
HasOctets (op.SetAttrs number change) = Unit {0}
HasOctets op.End = Unit {0}

body_octets : (o : Op) → OperationFits o → HasOctets o → AreOctets (body o)
body_octets (op.Inode number kind mode uid gid target) fits h =
    joined (joined (joined (joined (joined (a_key number fits.0) (a_word (kind_number kind))) (a_word mode)) (a_word uid)) (a_word gid)) (an_opaque target h)
body_octets (op.Write number offset bytes) fits h = joined (joined (a_key number fits.0) (a_double_word offset)) (an_opaque bytes h)
body_octets (op.Link dir name number) fits h = joined (joined (a_key dir fits.0) (an_opaque name h)) (a_key number fits.2)
body_octets (op.Unlink dir name) fits h = joined (a_key dir fits.0) (an_opaque name h)
body_octets (op.Rename dir name to_dir to_name) fits h = joined (joined (joined (a_key dir fits.0) (an_opaque name h.0)) (a_key to_dir fits.2)) (an_opaque to_name h.1)
body_octets (op.Prepare dir name verifier) fits h = joined (joined (a_key dir fits.0) (an_opaque name h)) (record { each = fits.2.each })
body_octets (op.Cancel seq) fits h = a_word seq
body_octets (op.SetAttrs number change) fits h =
    joined (joined (joined (joined (joined (joined (a_key number fits.0) (an_option word change.mode a_word)) (an_option word change.uid a_word)) (an_option word change.gid a_word))
    (an_option double_word change.size a_double_word)) (an_option moment change.atime a_moment)) (an_option moment change.mtime a_moment)
body_octets op.End fits h = no_octets

entries_octets : (v : Vector) → AllByRecursion (λ e. IsKey e.0 × (1 ≤ e.1.seq) × (e.1.seq < 2 ^ 32) × IsKey e.1.name) v → AreOctets (flat_map vector_entry v)
entries_octets [] h = no_octets
entries_octets (e ∷ v) h = joined {a = vector_entry e} {b = flat_map vector_entry v} (joined (joined (a_key e.0 h.0.0) (a_word e.1.seq)) (a_key e.1.name h.0.3)) (entries_octets v h.1)

tag_octets : (format : Format) → AreOctets (record_tag format)
tag_octets One = record { each = refl }
tag_octets Two = record { each = refl }

pub block_octets : (r : Record) → HasSpelling r → HasOctets r.op → AreOctets (record_block r)
block_octets r spelled h =
    joined
    (joined (joined (joined (joined (joined (joined {a = record_tag r.format} (tag_octets r.format) (a_word (record_kind r.op))) (record { each = bytes-digest r.owner.0 })) (a_key r.prev spelled.prev)) (a_word r.seq)) (a_moment r.moment))
    (joined {a = word (length r.vector)} (a_word (length r.vector)) (entries_octets r.vector spelled.entries)))
    (body_octets r.op spelled.operation h)

-- ---- what is planned

abbrev HaveOctets : Plan → Type 0
HaveOctets (Refuse reply) = Unit {0}
HaveOctets (Nothing reply) = Unit {0}
HaveOctets (Operations ops) = AllByRecursion HasOctets ops

by_check : (b : Bool) (fault : NfsStatus) (checks : List Check) (with : Tail) (p : Plan) → HaveOctets (plan_unless checks with p) → HaveOctets (plan_unless ((b, fault) ∷ checks) with p)
by_check true fault checks with p h = tt
by_check false fault checks with p h = h

by_unless : (checks : List Check) (with : Tail) (p : Plan) → HaveOctets p → HaveOctets (plan_unless checks with p)
by_unless [] with p h = h
by_unless (c ∷ checks) with p h = by_check c.0 c.1 checks with p (by_unless checks with p h)

by_about : (r : Result Object NfsStatus) (none : Tail) (p : Object → Plan) → ((o : Object) → HaveOctets (p o)) → HaveOctets (plan_about r none p)
by_about (Err fault) none p h = tt
by_about (Ok o) none p h = h o

by_choice : (b : Bool) (p q : Plan) → HaveOctets p → HaveOctets q → HaveOctets (cond b p q)
by_choice true p q f g = f
by_choice false p q f g = g

one_or_none : (b : Bool) (number : Key) (change : Change) → AllByRecursion HasOctets (cond b (op.SetAttrs number change ∷ []) [])
one_or_none true number change = (tt, tt)
one_or_none false number change = tt

module _ (t : Tree) (view : View) (who : Identity) (now : Moment) (own : PubKey) (seq : ℕ) where
  file_at : (name : List ℕ) (what : SetWhat) (dir : Object) (existing : Option Key) → AreOctets name → HaveOctets (plan_file_at t view who dir name what now (inode_number own seq) existing)
  file_at name what dir None h = (no_octets, (h, one_or_none _ _ _))
  file_at name what dir (Some number) h = by_choice (is_some what.size) (Operations (op.SetAttrs number (record { mode = None; uid = None; gid = None; size = what.size; atime = None; mtime = None }) ∷ [])) _ (tt, tt) tt

  a_file : (handle name : List ℕ) (guarded : Bool) (what : SetWhat) → AreOctets name → HaveOctets (plan_file t view who handle name guarded what now (inode_number own seq))
  a_file handle name guarded what h = by_about (object_of t view handle) _ _ (λ dir.
      let existing : Option Key = entry t dir.number name in
      by_unless
      (directory_checks who dir ++ name_checks name
      ++ invalid_times what ∷ too_large what.size
      ∷ (is_dot name || is_dot_dot name, Exist)
      ∷ (is_some existing && (guarded || not (is_file (inode_under t existing))), Exist)
      ∷ (is_some existing && is_some what.size && not (may_cut who (inode_under t existing)), Acces) ∷ []) _ _
      (file_at name what dir existing h))

  created : (handle name : List ℕ) (how : How) → AreOctets name → HaveOctets (plan_create t view who handle name how now (inode_number own seq))
  created handle name (Unchecked what) h = a_file handle name false what h
  created handle name (Guarded what) h = a_file handle name true what h
  created handle name (Exclusive verifier) h = by_about (object_of t view handle) _ _ (λ dir. by_unless (directory_checks who dir ++ name_checks name ++ (true, NotSupp) ∷ []) _ _ tt)

  renamed : (name to_name : List ℕ) (dir to_dir : Object) → AreOctets name → AreOctets to_name → HaveOctets (plan_rename_between t view who dir name to_dir to_name)
  renamed name to_name dir to_dir f g =
      by_unless
      ((not (directory_kind dir.inode.kind) || not (directory_kind to_dir.inode.kind), NotDir)
      ∷ (not (may_change who dir) || not (may_change who to_dir), Acces) ∷ []
      ++ name_checks name ++ name_checks to_name
      ++ (is_dot name || is_dot_dot name || is_dot to_name || is_dot_dot to_name, Inval)
      ∷ (not (is_some (entry t dir.number name)), NoEnt) ∷ []) _ _
      (by_choice (same_target (entry t dir.number name) (entry t to_dir.number to_name)) _ _ tt
      (by_unless (move_checks t to_dir.number (entry t dir.number name) (entry t to_dir.number to_name)) _ _ ((f, g), tt)))

  plan_octets : (args : Args) → AreOctets (arguments args) → HaveOctets (plan t view who args now own seq)
  plan_octets (call.MkDir dir name what) h = by_about (object_of t view dir) _ _ (λ o.
      by_unless (directory_checks who o ++ name_checks name ++ invalid_times what ∷ taken t o name ∷ []) _ _
      (no_octets, (of_opaque name (right_octets (opaque dir) (opaque name) (left_octets (opaque dir ++ opaque name) (set_what what) h)), one_or_none _ _ _)))
  plan_octets (call.RmDir dir name) h = by_about (object_of t view dir) _ _ (λ o.
      by_unless
      (directory_checks who o ++ name_checks name
      ++ (is_dot name, Inval) ∷ (is_dot_dot name, Exist) ∷ (not (is_some (entry t o.number name)), NoEnt)
      ∷ (not (is_directory (inode_under t (entry t o.number name))), NotDir) ∷ (not (is_empty_under t (entry t o.number name)), NotEmpty) ∷ []) _ _
      (of_opaque name (right_octets (opaque dir) (opaque name) h), tt))
  plan_octets (call.SetAttr object what guard) h = by_about (object_of t view object) _ _ (λ o. by_unless (set_attribute_checks who o what guard) _ _ (tt, tt))
  plan_octets (call.Write file offset count stable bytes) h = by_about (object_of t view file) _ _ (λ o.
      by_unless
      ((not (file_kind o.inode.kind), Inval)
      ∷ (not (may_write who o.inode || is_owner who o.inode), Acces)
      ∷ (not (count == length bytes), Inval)
      ∷ (nat_lt longest_file (offset + length (take 8192 bytes)), FBig) ∷ []) _ _
      (by_choice (length bytes == 0) _ _ tt (record { each = take_each 8192 bytes (of_opaque bytes (right_octets (opaque file ++ double_word offset ++ word count ++ word stable) (opaque bytes) h)).each }, tt)))
  plan_octets (call.Create dir name how) h = created dir name how (of_opaque name (right_octets (opaque dir) (opaque name) (left_octets (opaque dir ++ opaque name) (create_how how) h)))
  plan_octets (call.SymLink dir name what text) h = by_about (object_of t view dir) _ _ (λ o.
      by_unless
      (directory_checks who o ++ name_checks name
      ++ (nat_lt 1024 (length text), NameTooLong) ∷ (length text == 0, Inval) ∷ invalid_times what ∷ taken t o name ∷ []) _ _ (
        of_opaque text (right_octets (opaque dir ++ opaque name ++ set_what what) (opaque text) h),
        (of_opaque name (right_octets (opaque dir) (opaque name) (left_octets (opaque dir ++ opaque name) (set_what what) (left_octets (opaque dir ++ opaque name ++ set_what what) (opaque text) h))), one_or_none _ _ _),
      ))
  plan_octets (call.Remove dir name) h = by_about (object_of t view dir) _ _ (λ o.
      by_unless
      (directory_checks who o ++ name_checks name
      ++ (is_dot name || is_dot_dot name, Inval) ∷ (not (is_some (entry t o.number name)), NoEnt) ∷ (is_directory (inode_under t (entry t o.number name)), IsDir) ∷ []) _ _
      (of_opaque name (right_octets (opaque dir) (opaque name) h), tt))
  plan_octets (call.Rename dir name to_dir to_name) h = by_about (object_of t view dir) _ _ (λ o. by_about (object_of t view to_dir) _ _ (λ to.
      renamed name to_name o to
      (of_opaque name (right_octets (opaque dir) (opaque name) (left_octets (opaque dir ++ opaque name) (opaque to_dir) (left_octets (opaque dir ++ opaque name ++ opaque to_dir) (opaque to_name) h))))
      (of_opaque to_name (right_octets (opaque dir ++ opaque name ++ opaque to_dir) (opaque to_name) h))))
  plan_octets (call.Link file dir name) h = by_about (object_of t view file) _ _ (λ o. by_about (object_of t view dir) _ _ (λ place.
      by_unless
      ((directory_kind o.inode.kind, Inval) ∷ directory_checks who place ++ name_checks name
      ++ taken t place name ∷ (nat_le 1000 (name_count t o.number), MLink) ∷ []) _ _
      (of_opaque name (right_octets (opaque file ++ opaque dir) (opaque name) h), tt)))
  plan_octets _ h = tt

  pub planned_octets : (args : Args) (ops : List Op) → AreOctets (arguments args) → plan t view who args now own seq ≡ Operations ops → AllByRecursion HasOctets ops
  planned_octets args ops h planned = subst HaveOctets planned (plan_octets args h)
