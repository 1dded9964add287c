-- What is planned may be written: each operation may stand in the record that it gets.
use Rattle.std.proofs.Common.{◌≡◌, ℕ, ◌+◌, ◌<◌, ◌≤◌, ◌^◌, Bool, true, false, cond, not, ◌||◌, ◌&&◌, List, [], ◌∷◌, ◌++◌, length, take, drop, Option, Some, None, Result, Ok, Err, refl, ap, subst, arith}
use Rattle.std.specs.Prelude.{is_some, unwrap_or, option_map, IfSome, nat_lt, nat_le, ◌==◌}
use Rattle.std.specs.Option.{option_map_or}
use Rattle.std.specs.List.{AllByRecursion, list_any}
use Rattle.std.proofs.Common.{length-take}
use Rattle.std.proofs.lemmas.Bool.{ltb-false, leb-false, eqb-false}
use Rattle.ivy_base.specs.declared.key.Key.{Key}
use Rattle.ivy_base.specs.declared.key.PubKey.{PubKey}
use Rattle.ivy_base.specs.declared.operation.Kind.{Kind}
use Rattle.ivy_base.specs.declared.operation.Kind.TheVariants.{Reg, Dir, Lnk}
use Rattle.ivy_base.specs.declared.operation.Moment.{Moment}
use Rattle.ivy_base.specs.declared.operation.Op.{Op}
use Rattle.ivy_base.specs.declared.operation.Op.TheVariants as op
use Rattle.ivy_base.specs.Naming.{inode_number, IsFileName}
use Rattle.ivy_base.proofs.NameLemmas.{length-digest, bytes-digest}
use Rattle.tree_model.specs.Tree.{Tree, Inode, inode_at, entry, is_directory, is_file, is_live, directory_kind, file_kind, name_count, longest_file}
use Rattle.tree_model.proofs.Sound.{both_false, not_false}
use Rattle.log_model.specs.View.{View, view_name}
use Rattle.log_model.specs.Spelling.{IsKey, IsMode, IsMoment, IsTarget, OperationFits, IsEndOp}
use Rattle.log_model.specs.Chain.{HasMadeNumber, AllMayBeWritten}
use Rattle.log_model.specs.Laws.{NumbersAreKeys}
use Rattle.log_model.proofs.Lists.{some_passes}
use Rattle.wire_model.specs.Rpc.{Identity, IsIdentity}
use Rattle.nfs_model.specs.declared.arguments.Args.{Args}
use Rattle.nfs_model.specs.declared.arguments.Args.TheVariants as call
use Rattle.nfs_model.specs.declared.arguments.How.{How}
use Rattle.nfs_model.specs.declared.arguments.How.TheVariants.{Unchecked, Guarded, Exclusive}
use Rattle.nfs_model.specs.declared.arguments.SetTime.{SetTime}
use Rattle.nfs_model.specs.declared.arguments.SetTime.TheVariants.{Keep, Server, Client}
use Rattle.nfs_model.specs.declared.arguments.SetWhat.{SetWhat}
use Rattle.nfs_model.specs.declared.replies.NfsStatus.{NfsStatus}
use Rattle.nfs_model.specs.declared.replies.NfsStatus.TheVariants.{BadHandle, Stale, FBig, NotSupp, Inval, NoEnt, IsDir, NotDir, NotEmpty, Exist, MLink, NameTooLong, Acces}
use Rattle.nfs_model.specs.declared.replies.Tail.{Tail}
use Rattle.nfs_model.specs.Arguments.{ArgumentsFit, IsSetWhat, IsTime, IsHow}
use Rattle.nfs_model.specs.Checks.{Check, same_bytes, is_dot, is_dot_dot, too_long_name, invalid_name}
use Rattle.nfs_model.specs.Objects.{Object, object_of, may_write, is_owner, handle_tag}
use Rattle.nfs_model.specs.Changing.{Plan, Refuse, Nothing, Operations, plan_unless, plan_about, plan, make, given_mode, new_owner, given_time, is_invalid_time, set_times, plan_directory, plan_symbolic_link, plan_file, plan_file_at, plan_create, plan_attributes, plan_write, plan_remove, plan_remove_directory, plan_rename, plan_rename_between, plan_link, directory_checks, set_attribute_checks, move_checks, inode_under, is_empty_under, same_target, may_change, may_cut, is_positive, permission_bits, invalid_times, too_large, taken, name_checks}
use Rattle.turn_model.specs.Turn.{PlanMayBeWritten}

-- the part of `MayBeWritten` that a plan gives
record IsFit (own : PubKey) (seq : ℕ) (o : Op) : Type 0 where
  fits : OperationFits o
  no_end : IsEndOp o → ⊥
  number : HasMadeNumber own seq o

abbrev AllFit : PubKey → ℕ → List Op → Type 0
AllFit own seq [] = Unit {0}
AllFit own seq (o ∷ ops) = IsFit own seq o × AllFit own (seq + 1) ops

may_be_written : (own : PubKey) (seq : ℕ) (ops : List Op) → AllFit own seq ops → seq + length ops ≤ 1048577 → AllMayBeWritten own seq ops
may_be_written own seq [] fit few = tt
may_be_written own seq (o ∷ ops) fit few =
    (record { fits = fit.0.fits; no_end = fit.0.no_end; number = fit.0.number; few = omega arith }, may_be_written own (seq + 1) ops fit.1 (omega arith))

-- ---- what a plan of operations says of its checks

-- the plan has operations, and they fit
abbrev Fits : PubKey → ℕ → Plan → Type 0
Fits own seq (Refuse reply) = Unit {0}
Fits own seq (Nothing reply) = Unit {0}
Fits own seq (Operations ops) = AllFit own seq ops

fits_check : (own : PubKey) (seq : ℕ) (b : Bool) (fault : NfsStatus) (checks : List Check) (with : Tail) (p : Plan)
    → (((b ≡ false) × AllByRecursion (λ c. c.0 ≡ false) checks) → Fits own seq p)
    → ((AllByRecursion (λ c. c.0 ≡ false) checks → Fits own seq p) → Fits own seq (plan_unless checks with p)) → Fits own seq (plan_unless ((b, fault) ∷ checks) with p)
fits_check own seq true fault checks with p fit again = tt
fits_check own seq false fault checks with p fit again = again (λ rest. fit (refl, rest))

fits_unless : (own : PubKey) (seq : ℕ) (checks : List Check) (with : Tail) (p : Plan) → (AllByRecursion (λ c. c.0 ≡ false) checks → Fits own seq p) → Fits own seq (plan_unless checks with p)
fits_unless own seq [] with p fit = fit tt
fits_unless own seq (c ∷ checks) with p fit = fits_check own seq c.0 c.1 checks with p fit (λ g. fits_unless own seq checks with p g)

fits_about : (own : PubKey) (seq : ℕ) (r : Result Object NfsStatus) (none : Tail) (p : Object → Plan) → ((o : Object) → r ≡ Ok o → Fits own seq (p o)) → Fits own seq (plan_about r none p)
fits_about own seq (Err fault) none p fit = tt
fits_about own seq (Ok o) none p fit = fit o refl

-- ---- the parts of operations

ok_not : (b : Bool) (fault : NfsStatus) (r : Result Object NfsStatus) (o : Object) → cond b (Err fault) r ≡ Ok o → r ≡ Ok o
ok_not true fault r o e = cc
ok_not false fault r o e = e

live_number : (t : Tree) (k : Key) (o : Object) (b : Bool) (m : Option Inode) → inode_at t k ≡ m
    → cond b (option_map_or (λ i. Ok (record { number = k; inode = i })) m (Err Stale)) (Err Stale) ≡ Ok o → NumbersAreKeys t → IsKey o.number
live_number t k o true (Some i) at e keys = let same : k ≡ o.number = cc in subst (λ (x : Key). IsKey x) same (keys k (ap is_some at))
live_number t k o true None at e keys = cc
live_number t k o false m at e keys = cc

object_number : (t : Tree) (view : View) (handle : List ℕ) (o : Object) → NumbersAreKeys t → object_of t view handle ≡ Ok o → IsKey o.number
object_number t view handle o keys e =
    let tagged = ok_not (not (length handle == 44 && same_bytes (take 4 handle) handle_tag)) BadHandle _ o e in
    let here = ok_not (not (same_bytes (take 20 (drop 4 handle)) (view_name view).0)) Stale _ o tagged in
    live_number t (record { 0 = drop 24 handle }) o (is_live t (record { 0 = drop 24 handle })) (inode_at t (record { 0 = drop 24 handle })) refl here keys

file_name : (name : List ℕ) → (too_long_name name).0 ≡ false → (invalid_name name).0 ≡ false → is_dot name ≡ false → is_dot_dot name ≡ false → IsFileName name
file_name name short valid no_dot no_dots =
    let parts = both_false (length name == 0) (list_any (λ b. b == 47 || b == 0) name) valid in
    record {
      some = let full = eqb-false (length name) 0 parts.0 in omega arith;
      short = ltb-false 255 (length name) short;
      no_slash = λ c. let found = some_passes (λ b. b == 47 || b == 0) name 47 c refl in let none = parts.1 in cc;
      no_zero = λ c. let found = some_passes (λ b. b == 47 || b == 0) name 0 c refl in let none = parts.1 in cc;
      not_itself = λ e. let dot = ap is_dot e in cc;
      not_parent = λ e. let dots = ap is_dot_dot e in cc;
    }

-- a name that isn't taken is neither of the two dots
free_name : (name : List ℕ) (there : Bool) → (too_long_name name).0 ≡ false → (invalid_name name).0 ≡ false → (is_dot name || is_dot_dot name || there) ≡ false → IsFileName name
free_name name there short valid free =
    let dots = both_false (is_dot name) (is_dot_dot name) (both_false (is_dot name || is_dot_dot name) there free).0 in
    file_name name short valid dots.0 dots.1

inode_number_is_key : (own : PubKey) (seq : ℕ) → IsKey (inode_number own seq)
inode_number_is_key own seq = record { size = length-digest _; each = bytes-digest _ }

mode_fits : (kind : Kind) (mode : Option ℕ) → IsMode (given_mode kind mode)
mode_fits Reg None = omega arith
mode_fits Dir None = omega arith
mode_fits Lnk None = omega arith
mode_fits kind (Some mode) = omega arith

owner_fits : (who : Identity) (n : ℕ) (given : Option ℕ) → n < 2 ^ 32 → IfSome given (λ k. k < 2 ^ 32) → new_owner who n given < 2 ^ 32
owner_fits who n given own fits = by (who.uid == 0) given fits
  where
    by : (b : Bool) (o : Option ℕ) → IfSome o (λ k. k < 2 ^ 32) → cond b (unwrap_or o n) n < 2 ^ 32
    by true None h = own
    by true (Some k) h = h
    by false o h = own

fit_make : (own : PubKey) (seq : ℕ) (who : Identity) (kind : Kind) (what : SetWhat) (target : List ℕ) → IsIdentity who → IsSetWhat what → IsTarget kind target → IsFit own seq (make who kind what (inode_number own seq) target)
fit_make own seq who kind what target caller given text = record {
  fits = (inode_number_is_key own seq, mode_fits kind what.mode, owner_fits who who.uid what.uid caller.uid given.uid, owner_fits who who.gid what.gid caller.gid given.gid, text);
  no_end = λ h. h;
  number = refl;
}

time_fits : (now : Moment) (time : SetTime) → IsMoment now → IsTime time → is_invalid_time time ≡ false → IfSome (given_time now time) IsMoment
time_fits now Keep moment fits valid = tt
time_fits now Server moment fits valid = moment
time_fits now (Client m) moment fits valid = record { sec = fits.0; nsec = leb-false 1000000000 m.nsec valid }

bits_fit : (mode : Option ℕ) → IfSome (option_map permission_bits mode) IsMode
bits_fit None = tt
bits_fit (Some mode) = omega arith

size_fits : (size : Option ℕ) → (too_large size).0 ≡ false → IfSome size (λ n. n ≤ longest_file)
size_fits None small = tt
size_fits (Some n) small = ltb-false longest_file n small

chosen_size : (b : Bool) (size : Option ℕ) → IfSome size (λ n. n ≤ longest_file) → IfSome (cond b size None) (λ n. n ≤ longest_file)
chosen_size true size fits = fits
chosen_size false size fits = tt

file_is_some : (o : Option Inode) → is_file o ≡ true → is_some o ≡ true
file_is_some None e = cc
file_is_some (Some i) e = refl

one_or_none : (own : PubKey) (seq : ℕ) (b : Bool) (o : Op) → IsFit own seq o → AllFit own seq (cond b (o ∷ []) [])
one_or_none own seq true o fit = (fit, tt)
one_or_none own seq false o fit = tt

fit_set_times : (own : PubKey) (seq : ℕ) (now : Moment) (what : SetWhat) (number : Key) → IsMoment now → IsSetWhat what → IsKey number → is_invalid_time what.atime ≡ false → is_invalid_time what.mtime ≡ false
    → AllFit own seq (set_times now what number)
fit_set_times own seq now what number moment given key valid_a valid_m = one_or_none own seq (is_some (given_time now what.atime) || is_some (given_time now what.mtime)) _ (record {
  fits = (key, record { mode = tt; uid = tt; gid = tt; size = tt; atime = time_fits now what.atime moment given.atime valid_a; mtime = time_fits now what.mtime moment given.mtime valid_m });
  no_end = λ h. h;
  number = tt;
})

-- ---- the procedures

fits_if : (own : PubKey) (seq : ℕ) (b : Bool) (p q : Plan) → (b ≡ true → Fits own seq p) → (b ≡ false → Fits own seq q) → Fits own seq (cond b p q)
fits_if own seq true p q h g = h refl
fits_if own seq false p q h g = g refl

-- what a changing call goes by
module _ (t : Tree) (view : View) (who : Identity) (now : Moment) (own : PubKey) (seq : ℕ) (keys : NumbersAreKeys t) (caller : IsIdentity who) (moment : IsMoment now) where
  fit_link : (n : ℕ) (handle name : List ℕ) (dir : Object) (number : Key) → object_of t view handle ≡ Ok dir → IsFileName name → IsKey number → IsFit own n (op.Link dir.number name number)
  fit_link n handle name dir number e named key = record { fits = (object_number t view handle dir keys e, named, key); no_end = λ h. h; number = tt }

  fit_unlink : (handle name : List ℕ) (dir : Object) → object_of t view handle ≡ Ok dir → IsFileName name → IsFit own seq (op.Unlink dir.number name)
  fit_unlink handle name dir e named = record { fits = (object_number t view handle dir keys e, named); no_end = λ h. h; number = tt }

  new_name : (handle name : List ℕ) (dir : Object) (kind : Kind) (what : SetWhat) (target : List ℕ) → object_of t view handle ≡ Ok dir → IsFileName name → IsSetWhat what → IsTarget kind target
      → ((is_invalid_time what.atime ≡ false) × (is_invalid_time what.mtime ≡ false))
      → AllFit own seq (make who kind what (inode_number own seq) target ∷ op.Link dir.number name (inode_number own seq) ∷ set_times now what (inode_number own seq))
  new_name handle name dir kind what target e named given text valid = (
    fit_make own seq who kind what target caller given text,
    (
      fit_link (seq + 1) handle name dir (inode_number own seq) e named (inode_number_is_key own seq),
      fit_set_times own (seq + 1 + 1) now what (inode_number own seq) moment given (inode_number_is_key own seq) valid.0 valid.1,
    ),
  )

  fit_directory : (handle name : List ℕ) (what : SetWhat) → IsSetWhat what → Fits own seq (plan_directory t view who handle name what now (inode_number own seq))
  fit_directory handle name what given =
      fits_about own seq (object_of t view handle) _ _ (λ dir e. fits_unless own seq (directory_checks who dir ++ name_checks name ++ invalid_times what ∷ taken t dir name ∷ []) _ _ (λ passed.
      let valid = both_false (is_invalid_time what.atime) (is_invalid_time what.mtime) passed.1.1.1.1.0 in
      let named = free_name name _ passed.1.1.0 passed.1.1.1.0 passed.1.1.1.1.1.0 in
      new_name handle name dir Dir what [] e named given refl valid))

  fit_symbolic_link : (handle name : List ℕ) (what : SetWhat) (text : List ℕ) → IsSetWhat what → Fits own seq (plan_symbolic_link t view who handle name what text now (inode_number own seq))
  fit_symbolic_link handle name what text given =
      fits_about own seq (object_of t view handle) _ _ (λ dir e. fits_unless own seq
      (directory_checks who dir ++ name_checks name
      ++ (nat_lt 1024 (length text), NameTooLong) ∷ (length text == 0, Inval) ∷ invalid_times what ∷ taken t dir name ∷ []) _ _ (λ passed.
      let short = ltb-false 1024 (length text) passed.1.1.1.1.0 in
      let some = eqb-false (length text) 0 passed.1.1.1.1.1.0 in
      let valid = both_false (is_invalid_time what.atime) (is_invalid_time what.mtime) passed.1.1.1.1.1.1.0 in
      let named = free_name name _ passed.1.1.0 passed.1.1.1.0 passed.1.1.1.1.1.1.1.0 in
      new_name handle name dir Lnk what text e named given (omega arith, short) valid))

  -- a file that is there, or a new one
  fit_file_at : (handle name : List ℕ) (guarded : Bool) (what : SetWhat) (dir : Object) (existing : Option Key) → object_of t view handle ≡ Ok dir → IsSetWhat what → IsFileName name
      → ((is_invalid_time what.atime ≡ false) × (is_invalid_time what.mtime ≡ false)) → (too_large what.size).0 ≡ false
      → (is_some existing && (guarded || not (is_file (inode_under t existing)))) ≡ false → Fits own seq (plan_file_at t view who dir name what now (inode_number own seq) existing)
  fit_file_at handle name guarded what dir None e given named valid small free = (
    fit_make own seq who Reg what [] caller given refl,
    (
      fit_link (seq + 1) handle name dir (inode_number own seq) e named (inode_number_is_key own seq),
      one_or_none own (seq + 1 + 1) _ _ (record {
        fits = (
          inode_number_is_key own seq,
          record {
            mode = tt;
            uid = tt;
            gid = tt;
            size = chosen_size (is_positive what.size) what.size (size_fits what.size small);
            atime = time_fits now what.atime moment given.atime valid.0;
            mtime = time_fits now what.mtime moment given.mtime valid.1;
          },
        );
        no_end = λ h. h;
        number = tt;
      }),
    ),
  )
  fit_file_at handle name guarded what dir (Some number) e given named valid small free =
      let there = both_false guarded (not (is_file (inode_at t number))) free in
      fits_if own seq (is_some what.size) _ _ (λ some. (
        record {
          fits = (
            keys number (file_is_some (inode_at t number) (not_false (is_file (inode_at t number)) there.1)),
            record { mode = tt; uid = tt; gid = tt; size = size_fits what.size small; atime = tt; mtime = tt },
          );
          no_end = λ h. h;
          number = tt;
        },
        tt,
      )) (λ none. tt)

  fit_file : (handle name : List ℕ) (guarded : Bool) (what : SetWhat) → IsSetWhat what → Fits own seq (plan_file t view who handle name guarded what now (inode_number own seq))
  fit_file handle name guarded what given =
      fits_about own seq (object_of t view handle) _ _ (λ dir e.
      let existing : Option Key = entry t dir.number name in
      fits_unless own seq
      (directory_checks who dir ++ name_checks name
      ++ invalid_times what ∷ too_large what.size
      ∷ (is_dot name || is_dot_dot name, Exist)
      ∷ (is_some existing && (guarded || not (is_file (inode_under t existing))), Exist)
      ∷ (is_some existing && is_some what.size && not (may_cut who (inode_under t existing)), Acces) ∷ []) _ _ (λ passed.
      let valid = both_false (is_invalid_time what.atime) (is_invalid_time what.mtime) passed.1.1.1.1.0 in
      let dots = both_false (is_dot name) (is_dot_dot name) passed.1.1.1.1.1.1.0 in
      let named = file_name name passed.1.1.0 passed.1.1.1.0 dots.0 dots.1 in
      fit_file_at handle name guarded what dir existing e given named valid passed.1.1.1.1.1.0 passed.1.1.1.1.1.1.1.0))

  fit_create : (handle name : List ℕ) (how : How) → IsHow how → Fits own seq (plan_create t view who handle name how now (inode_number own seq))
  fit_create handle name (Unchecked what) given = fit_file handle name false what given
  fit_create handle name (Guarded what) given = fit_file handle name true what given
  fit_create handle name (Exclusive verifier) given =
      fits_about own seq (object_of t view handle) _ _ (λ dir e. fits_unless own seq (directory_checks who dir ++ name_checks name ++ (true, NotSupp) ∷ []) _ _ (λ passed. tt))

  fit_attributes : (handle : List ℕ) (what : SetWhat) (guard : Option Moment) → IsSetWhat what → Fits own seq (plan_attributes t view who handle what guard now)
  fit_attributes handle what guard given =
      fits_about own seq (object_of t view handle) _ _ (λ o e. fits_unless own seq (set_attribute_checks who o what guard) _ _ (λ passed.
      let valid = both_false (is_invalid_time what.atime) (is_invalid_time what.mtime) passed.0 in (
        record {
          fits = (
            object_number t view handle o keys e,
            record {
              mode = bits_fit what.mode;
              uid = given.uid;
              gid = given.gid;
              size = size_fits what.size passed.1.1.1.1.1.1.0;
              atime = time_fits now what.atime moment given.atime valid.0;
              mtime = time_fits now what.mtime moment given.mtime valid.1;
            },
          );
          no_end = λ h. h;
          number = tt;
        },
        tt,
      )))

  fit_write : (handle : List ℕ) (offset count : ℕ) (bytes : List ℕ) → Fits own seq (plan_write t view who handle offset count bytes)
  fit_write handle offset count bytes =
      fits_about own seq (object_of t view handle) _ _ (λ o e. fits_unless own seq
      ((not (file_kind o.inode.kind), Inval)
      ∷ (not (may_write who o.inode || is_owner who o.inode), Acces)
      ∷ (not (count == length bytes), Inval)
      ∷ (nat_lt longest_file (offset + length (take 8192 bytes)), FBig) ∷ []) _ _ (λ passed.
      fits_if own seq (length bytes == 0) _ _ (λ none. tt) (λ some.
      let end = ltb-false longest_file (offset + length (take 8192 bytes)) passed.1.1.1.0 in
      let more = eqb-false (length bytes) 0 some in
      let part = length-take 8192 bytes in
      (record { fits = (object_number t view handle o keys e, omega arith, omega arith, end); no_end = λ h. h; number = tt }, tt))))

  fit_remove : (handle name : List ℕ) → Fits own seq (plan_remove t view who handle name)
  fit_remove handle name =
      fits_about own seq (object_of t view handle) _ _ (λ dir e. fits_unless own seq
      (directory_checks who dir ++ name_checks name
      ++ (is_dot name || is_dot_dot name, Inval) ∷ (not (is_some (entry t dir.number name)), NoEnt) ∷ (is_directory (inode_under t (entry t dir.number name)), IsDir) ∷ []) _ _ (λ passed.
      let dots = both_false (is_dot name) (is_dot_dot name) passed.1.1.1.1.0 in
      (fit_unlink handle name dir e (file_name name passed.1.1.0 passed.1.1.1.0 dots.0 dots.1), tt)))

  fit_remove_directory : (handle name : List ℕ) → Fits own seq (plan_remove_directory t view who handle name)
  fit_remove_directory handle name =
      fits_about own seq (object_of t view handle) _ _ (λ dir e. fits_unless own seq
      (directory_checks who dir ++ name_checks name
      ++ (is_dot name, Inval) ∷ (is_dot_dot name, Exist) ∷ (not (is_some (entry t dir.number name)), NoEnt)
      ∷ (not (is_directory (inode_under t (entry t dir.number name))), NotDir) ∷ (not (is_empty_under t (entry t dir.number name)), NotEmpty) ∷ []) _ _ (λ passed.
      (fit_unlink handle name dir e (file_name name passed.1.1.0 passed.1.1.1.0 passed.1.1.1.1.0 passed.1.1.1.1.1.0), tt)))

  fit_rename_between : (handle name to_handle to_name : List ℕ) (dir to_dir : Object) → object_of t view handle ≡ Ok dir → object_of t view to_handle ≡ Ok to_dir
      → Fits own seq (plan_rename_between t view who dir name to_dir to_name)
  fit_rename_between handle name to_handle to_name dir to_dir e f =
      fits_unless own seq
      ((not (directory_kind dir.inode.kind) || not (directory_kind to_dir.inode.kind), NotDir)
      ∷ (not (may_change who dir) || not (may_change who to_dir), Acces) ∷ []
      ++ name_checks name ++ name_checks to_name
      ++ (is_dot name || is_dot_dot name || is_dot to_name || is_dot_dot to_name, Inval)
      ∷ (not (is_some (entry t dir.number name)), NoEnt) ∷ []) _ _ (λ passed.
      let last = both_false (is_dot name || is_dot_dot name || is_dot to_name) (is_dot_dot to_name) passed.1.1.1.1.1.1.0 in
      let third = both_false (is_dot name || is_dot_dot name) (is_dot to_name) last.0 in
      fits_if own seq (same_target (entry t dir.number name) (entry t to_dir.number to_name)) _ _ (λ same. tt) (λ other.
      fits_unless own seq (move_checks t to_dir.number (entry t dir.number name) (entry t to_dir.number to_name)) _ _ (λ moves. (
        record {
          fits = (
            object_number t view handle dir keys e,
            free_name name (is_dot to_name) passed.1.1.0 passed.1.1.1.0 last.0,
            object_number t view to_handle to_dir keys f,
            file_name to_name passed.1.1.1.1.0 passed.1.1.1.1.1.0 third.1 last.1,
          );
          no_end = λ h. h;
          number = tt;
        },
        tt,
      ))))

  fit_rename : (handle name to_handle to_name : List ℕ) → Fits own seq (plan_rename t view who handle name to_handle to_name)
  fit_rename handle name to_handle to_name =
      fits_about own seq (object_of t view handle) _ _ (λ dir e. fits_about own seq (object_of t view to_handle) _ _ (λ to_dir f.
      fit_rename_between handle name to_handle to_name dir to_dir e f))

  fit_hard_link : (file_handle handle name : List ℕ) → Fits own seq (plan_link t view who file_handle handle name)
  fit_hard_link file_handle handle name =
      fits_about own seq (object_of t view file_handle) _ _ (λ file e. fits_about own seq (object_of t view handle) _ _ (λ dir f. fits_unless own seq
      ((directory_kind file.inode.kind, Inval) ∷ directory_checks who dir ++ name_checks name
      ++ taken t dir name ∷ (nat_le 1000 (name_count t file.number), MLink) ∷ []) _ _ (λ passed.
      (fit_link seq handle name dir file.number f (free_name name _ passed.1.1.1.0 passed.1.1.1.1.0 passed.1.1.1.1.1.0) (object_number t view file_handle file keys e), tt))))

  fit_plan : (args : Args) → ArgumentsFit args → Fits own seq (plan t view who args now own seq)
  fit_plan (call.MkDir dir name what) fits = fit_directory dir name what fits.2
  fit_plan (call.RmDir dir name) fits = fit_remove_directory dir name
  fit_plan (call.SetAttr object what guard) fits = fit_attributes object what guard fits.1
  fit_plan (call.Write file offset count stable bytes) fits = fit_write file offset count bytes
  fit_plan (call.Create dir name how) fits = fit_create dir name how fits.2
  fit_plan (call.SymLink dir name what text) fits = fit_symbolic_link dir name what text fits.2
  fit_plan (call.Remove dir name) fits = fit_remove dir name
  fit_plan (call.Rename dir name to_dir to_name) fits = fit_rename dir name to_dir to_name
  fit_plan (call.Link file dir name) fits = fit_hard_link file dir name
  fit_plan _ fits = tt

pub plan_may_be_written : PlanMayBeWritten
plan_may_be_written t view who args now own seq ops keys caller fits moment planned few =
    may_be_written own seq ops (subst (λ (p : Plan). Fits own seq p) planned (fit_plan t view who now own seq keys caller moment args fits)) few
