-- What a call plans: a refusal or a reply, or one to three operations, the first of which makes or sets an inode whose number is a key.
use Rattle.std.proofs.Common.{◌≡◌, ℕ, ◌+◌, ◌≤◌, Bool, true, false, cond, not, ◌||◌, ◌&&◌, List, [], ◌∷◌, ◌++◌, length, take, Option, Some, None, Result, Ok, refl, subst, arith}
use Rattle.std.specs.Prelude.{is_some, IfSome, nat_lt, nat_le, ◌==◌}
use Rattle.ivy_base.specs.declared.key.Key.{Key}
use Rattle.ivy_base.specs.declared.key.PubKey.{PubKey}
use Rattle.ivy_base.specs.declared.operation.Kind.{Kind}
use Rattle.ivy_base.specs.declared.operation.Kind.TheVariants.{Reg, Dir, Lnk}
use Rattle.ivy_base.specs.declared.operation.Moment.{Moment}
use Rattle.ivy_base.specs.declared.operation.Op.{Op}
use Rattle.ivy_base.specs.declared.operation.Op.TheVariants as op
use Rattle.ivy_base.specs.Naming.{inode_number}
use Rattle.ivy_base.proofs.NameLemmas.{length-digest}
use Rattle.tree_model.specs.Tree.{Tree, Inode, inode_at, entry, is_directory, is_file, directory_kind, file_kind, name_count, longest_file}
use Rattle.tree_model.proofs.Sound.{both_false, not_false}
use Rattle.log_model.specs.View.{View}
use Rattle.log_model.specs.Laws.{NumbersAreKeys}
use Rattle.wire_model.specs.Rpc.{Identity}
use Rattle.nfs_model.specs.declared.arguments.Args.{Args}
use Rattle.nfs_model.specs.declared.arguments.Args.TheVariants as call
use Rattle.nfs_model.specs.declared.arguments.How.{How}
use Rattle.nfs_model.specs.declared.arguments.How.TheVariants.{Unchecked, Guarded, Exclusive}
use Rattle.nfs_model.specs.declared.arguments.SetWhat.{SetWhat}
use Rattle.nfs_model.specs.declared.replies.NfsStatus.{NfsStatus}
use Rattle.nfs_model.specs.declared.replies.NfsStatus.TheVariants.{FBig, NotSupp, Inval, NoEnt, IsDir, NotDir, NotEmpty, Exist, MLink, NameTooLong, Acces}
use Rattle.nfs_model.specs.declared.replies.Tail.{Tail}
use Rattle.nfs_model.specs.declared.replies.Reply.TheVariants as reply
use Rattle.nfs_model.specs.Checks.{Check, is_dot, is_dot_dot}
use Rattle.nfs_model.specs.Objects.{Object, object_of, may_write, is_owner}
use Rattle.nfs_model.specs.Changing.{Plan, Refuse, Nothing, Operations, plan_unless, plan_about, plan, make, plan_directory, plan_symbolic_link, plan_file, plan_file_at, plan_create, plan_attributes, plan_write, plan_remove, plan_remove_directory, plan_rename, plan_rename_between, plan_link, directory_checks, set_attribute_checks, move_checks, inode_under, is_empty_under, same_target, may_change, may_cut, invalid_times, too_large, taken, name_checks, made_number}
use Rattle.nfs_laws.specs.Plans.{PlansAreFew}
use Rattle.nfs_laws.proofs.Ways.{Pass, of_plan_unless, of_plan_about, of_plan_if, is_object}
use Rattle.nfs_laws.proofs.Sizes.{IsShort, short_nothing, short_refused, short_written, short_made, short_renamed}

-- an operation's number has 20 bytes
abbrev pub HasKey : Option Key → Type 0
HasKey number = IfSome number (λ k. length k.0 ≡ 20)

-- one to three operations, of which the first one's number is a key, or a short reply
abbrev pub Goes : Tree → Plan → Type 0
Goes t (Refuse reply) = NumbersAreKeys t → IsShort reply
Goes t (Nothing reply) = NumbersAreKeys t → IsShort reply
Goes t (Operations ops) = (1 ≤ length ops) × (length ops ≤ 3) × (NumbersAreKeys t → HasKey (made_number ops))

goes_refused : (t : Tree) (fault : NfsStatus) (with : Tail) → Goes t (Refuse (reply.Refused fault with))
goes_refused t fault with keys = short_refused fault with

-- an operation more, or none
few_more : (b : Bool) (x y o : Op) → (1 ≤ length (x ∷ y ∷ cond b (o ∷ []) [])) × (length (x ∷ y ∷ cond b (o ∷ []) []) ≤ 3)
few_more true x y o = (omega arith, omega arith)
few_more false x y o = (omega arith, omega arith)

file_is_some : (o : Option Inode) → is_file o ≡ true → is_some o ≡ true
file_is_some None e = cc
file_is_some (Some i) e = refl

-- what a changing call goes by
module _ (t : Tree) (view : View) (who : Identity) (now : Moment) (own : PubKey) (seq : ℕ) where
  new_number : length (inode_number own seq).0 ≡ 20
  new_number = length-digest _

  behind_checks : (checks : List Check) (with : Tail) (p : Plan) → (Pass checks → Goes t p) → Goes t (plan_unless checks with p)
  behind_checks = of_plan_unless (Goes t) (goes_refused t)

  behind_object : (found : Result Object NfsStatus) (none : Tail) (plan : Object → Plan) → ((o : Object) → found ≡ Ok o → Goes t (plan o)) → Goes t (plan_about found none plan)
  behind_object = of_plan_about (Goes t) (goes_refused t)

  by_test : (b : Bool) (p q : Plan) → (b ≡ true → Goes t p) → (b ≡ false → Goes t q) → Goes t (cond b p q)
  by_test = of_plan_if (Goes t)

  -- an inode that is made, and its name
  new_name : (kind : Kind) (what : SetWhat) (target : List ℕ) (dir : Object) (name : List ℕ) (times : Bool) (set : Op)
      → Goes t (Operations (make who kind what (inode_number own seq) target ∷ op.Link dir.number name (inode_number own seq) ∷ cond times (set ∷ []) []))
  new_name kind what target dir name times set =
      let few = few_more times (make who kind what (inode_number own seq) target) (op.Link dir.number name (inode_number own seq)) set in
      (few.0, few.1, λ keys. new_number)

  goes_directory : (handle name : List ℕ) (what : SetWhat) → Goes t (plan_directory t view who handle name what now (inode_number own seq))
  goes_directory handle name what = behind_object (object_of t view handle) _ _ (λ dir e. behind_checks (directory_checks who dir ++ name_checks name ++ invalid_times what ∷ taken t dir name ∷ []) _ _ (λ passed.
      new_name Dir what [] dir name _ _))

  goes_symbolic_link : (handle name : List ℕ) (what : SetWhat) (text : List ℕ) → Goes t (plan_symbolic_link t view who handle name what text now (inode_number own seq))
  goes_symbolic_link handle name what text = behind_object (object_of t view handle) _ _ (λ dir e. behind_checks
      (directory_checks who dir ++ name_checks name
      ++ (nat_lt 1024 (length text), NameTooLong) ∷ (length text == 0, Inval) ∷ invalid_times what ∷ taken t dir name ∷ []) _ _ (λ passed.
      new_name Lnk what text dir name _ _))

  -- a file that is there has an inode, and so a key as its number
  pub there : (number : Key) (guarded : Bool) → (guarded || not (is_file (inode_at t number))) ≡ false → NumbersAreKeys t → length number.0 ≡ 20
  there number guarded free keys =
      (keys number (file_is_some (inode_at t number) (not_false (is_file (inode_at t number)) (both_false guarded (not (is_file (inode_at t number))) free).1))).size

  goes_file_at : (dir : Object) (name : List ℕ) (guarded : Bool) (what : SetWhat) (existing : Option Key)
      → (is_some existing && (guarded || not (is_file (inode_under t existing)))) ≡ false → Goes t (plan_file_at t view who dir name what now (inode_number own seq) existing)
  goes_file_at dir name guarded what None free = new_name Reg what [] dir name _ _
  goes_file_at dir name guarded what (Some number) free = by_test (is_some what.size) _ _
      (λ some. (omega arith, omega arith, there number guarded free))
      (λ none keys. short_made view number _ _ (there number guarded free keys))

  goes_file : (handle name : List ℕ) (guarded : Bool) (what : SetWhat) → Goes t (plan_file t view who handle name guarded what now (inode_number own seq))
  goes_file handle name guarded what = behind_object (object_of t view handle) _ _ (λ dir e.
      let existing : Option Key = entry t dir.number name in
      behind_checks
      (directory_checks who dir ++ name_checks name
      ++ invalid_times what ∷ too_large what.size
      ∷ (is_dot name || is_dot_dot name, Exist)
      ∷ (is_some existing && (guarded || not (is_file (inode_under t existing))), Exist)
      ∷ (is_some existing && is_some what.size && not (may_cut who (inode_under t existing)), Acces) ∷ []) _ _ (λ passed.
      goes_file_at dir name guarded what existing passed.1.1.1.1.1.1.1.0))

  goes_create : (handle name : List ℕ) (how : How) → Goes t (plan_create t view who handle name how now (inode_number own seq))
  goes_create handle name (Unchecked what) = goes_file handle name false what
  goes_create handle name (Guarded what) = goes_file handle name true what
  goes_create handle name (Exclusive verifier) =
      behind_object (object_of t view handle) _ _ (λ dir e. behind_checks (directory_checks who dir ++ name_checks name ++ (true, NotSupp) ∷ []) _ _ (λ passed keys. short_nothing))

  goes_attributes : (handle : List ℕ) (what : SetWhat) (guard : Option Moment) → Goes t (plan_attributes t view who handle what guard now)
  goes_attributes handle what guard = behind_object (object_of t view handle) _ _ (λ o e. behind_checks (set_attribute_checks who o what guard) _ _ (λ passed.
      (omega arith, omega arith, λ keys. (is_object t view handle o e).number)))

  goes_write : (handle : List ℕ) (offset count : ℕ) (bytes : List ℕ) → Goes t (plan_write t view who handle offset count bytes)
  goes_write handle offset count bytes = behind_object (object_of t view handle) _ _ (λ o e. behind_checks
      ((not (file_kind o.inode.kind), Inval)
      ∷ (not (may_write who o.inode || is_owner who o.inode), Acces)
      ∷ (not (count == length bytes), Inval)
      ∷ (nat_lt longest_file (offset + length (take 8192 bytes)), FBig) ∷ []) _ _ (λ passed.
      by_test (length bytes == 0) _ _ (λ none keys. short_written _ 0) (λ some. (omega arith, omega arith, λ keys. tt))))

  goes_remove : (handle name : List ℕ) → Goes t (plan_remove t view who handle name)
  goes_remove handle name = behind_object (object_of t view handle) _ _ (λ dir e. behind_checks
      (directory_checks who dir ++ name_checks name
      ++ (is_dot name || is_dot_dot name, Inval) ∷ (not (is_some (entry t dir.number name)), NoEnt) ∷ (is_directory (inode_under t (entry t dir.number name)), IsDir) ∷ []) _ _ (λ passed.
      (omega arith, omega arith, λ keys. tt)))

  goes_remove_directory : (handle name : List ℕ) → Goes t (plan_remove_directory t view who handle name)
  goes_remove_directory handle name = behind_object (object_of t view handle) _ _ (λ dir e. behind_checks
      (directory_checks who dir ++ name_checks name
      ++ (is_dot name, Inval) ∷ (is_dot_dot name, Exist) ∷ (not (is_some (entry t dir.number name)), NoEnt)
      ∷ (not (is_directory (inode_under t (entry t dir.number name))), NotDir) ∷ (not (is_empty_under t (entry t dir.number name)), NotEmpty) ∷ []) _ _ (λ passed.
      (omega arith, omega arith, λ keys. tt)))

  goes_rename_between : (name to_name : List ℕ) (dir to_dir : Object) → Goes t (plan_rename_between t view who dir name to_dir to_name)
  goes_rename_between name to_name dir to_dir = behind_checks
      ((not (directory_kind dir.inode.kind) || not (directory_kind to_dir.inode.kind), NotDir)
      ∷ (not (may_change who dir) || not (may_change who to_dir), Acces) ∷ []
      ++ name_checks name ++ name_checks to_name
      ++ (is_dot name || is_dot_dot name || is_dot to_name || is_dot_dot to_name, Inval)
      ∷ (not (is_some (entry t dir.number name)), NoEnt) ∷ []) _ _ (λ passed.
      by_test (same_target (entry t dir.number name) (entry t to_dir.number to_name)) _ _ (λ same keys. short_renamed _ _) (λ other.
      behind_checks (move_checks t to_dir.number (entry t dir.number name) (entry t to_dir.number to_name)) _ _ (λ moves.
      (omega arith, omega arith, λ keys. tt))))

  goes_rename : (handle name to_handle to_name : List ℕ) → Goes t (plan_rename t view who handle name to_handle to_name)
  goes_rename handle name to_handle to_name =
      behind_object (object_of t view handle) _ _ (λ dir e. behind_object (object_of t view to_handle) _ _ (λ to_dir f. goes_rename_between name to_name dir to_dir))

  goes_hard_link : (file_handle handle name : List ℕ) → Goes t (plan_link t view who file_handle handle name)
  goes_hard_link file_handle handle name =
      behind_object (object_of t view file_handle) _ _ (λ file e. behind_object (object_of t view handle) _ _ (λ dir f. behind_checks
      ((directory_kind file.inode.kind, Inval) ∷ directory_checks who dir ++ name_checks name
      ++ taken t dir name ∷ (nat_le 1000 (name_count t file.number), MLink) ∷ []) _ _ (λ passed.
      (omega arith, omega arith, λ keys. tt))))

  pub goes_plan : (args : Args) → Goes t (plan t view who args now own seq)
  goes_plan (call.MkDir dir name what) = goes_directory dir name what
  goes_plan (call.RmDir dir name) = goes_remove_directory dir name
  goes_plan (call.SetAttr object what guard) = goes_attributes object what guard
  goes_plan (call.Write file offset count stable bytes) = goes_write file offset count bytes
  goes_plan (call.Create dir name how) = goes_create dir name how
  goes_plan (call.SymLink dir name what text) = goes_symbolic_link dir name what text
  goes_plan (call.Remove dir name) = goes_remove dir name
  goes_plan (call.Rename dir name to_dir to_name) = goes_rename dir name to_dir to_name
  goes_plan (call.Link file dir name) = goes_hard_link file dir name
  goes_plan _ = λ keys. short_nothing

pub plans_are_few : PlansAreFew
plans_are_few t view who args now own seq ops planned =
    let goes = subst (λ (p : Plan). Goes t p) planned (goes_plan t view who now own seq args) in
    (goes.0, goes.1)
