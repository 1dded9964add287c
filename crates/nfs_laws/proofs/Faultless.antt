-- Of what is answered on a tree nothing is SERVERFAULT: neither the reply of a reading call, nor that of a plan, nor that of operations that stand.
use Rattle.std.proofs.Common.{◌≡◌, ℕ, ◌+◌, Bool, true, false, cond, not, ◌||◌, ◌&&◌, List, [], ◌∷◌, ◌++◌, length, Option, Some, None, Result, Ok, Err, refl, subst}
use Rattle.std.specs.Prelude.{is_some, nat_lt, nat_le, ◌==◌, take, drop}
use Rattle.std.specs.List.{list_all}
use Rattle.ivy_base.specs.declared.key.Key.{Key}
use Rattle.ivy_base.specs.declared.key.PubKey.{PubKey}
use Rattle.ivy_base.specs.declared.operation.Moment.{Moment}
use Rattle.ivy_base.specs.declared.operation.Op.{Op}
use Rattle.ivy_base.specs.declared.operation.Op.TheVariants as op
use Rattle.ivy_base.specs.Naming.{inode_number}
use Rattle.tree_model.specs.Tree.{Tree, Inode, directory_kind, entry, file_kind, inode_at, is_directory, is_file, is_live, name_count, longest_file}
use Rattle.log_model.specs.View.{View, view_name}
use Rattle.wire_model.specs.Rpc.{Identity}
use Rattle.wire_model.specs.Xdr.{word}
use Rattle.nfs_model.specs.declared.arguments.Args.{Args}
use Rattle.nfs_model.specs.declared.arguments.Args.TheVariants as call
use Rattle.nfs_model.specs.declared.arguments.How.TheVariants.{Unchecked, Guarded, Exclusive}
use Rattle.nfs_model.specs.declared.arguments.SetWhat.{SetWhat}
use Rattle.nfs_model.specs.declared.replies.NfsStatus.{NfsStatus}
use Rattle.nfs_model.specs.declared.replies.NfsStatus.TheVariants as status
use Rattle.nfs_model.specs.declared.replies.Tail.{Tail}
use Rattle.nfs_model.specs.declared.replies.Tail.TheVariants as tails
use Rattle.nfs_model.specs.declared.replies.Reply.{Reply}
use Rattle.nfs_model.specs.declared.replies.Reply.TheVariants as reply
use Rattle.nfs_model.specs.Answers as answers
use Rattle.nfs_model.specs.Checks.{Check, is_dot, is_dot_dot, same_bytes}
use Rattle.nfs_model.specs.Objects.{Object, cache_data, is_owner, live_object, may_read, may_write, object_of, handle_tag}
use Rattle.nfs_model.specs.Reading.{answer, found, found_inode, link_kind, lookup_checks, target_of}
use Rattle.nfs_model.specs.Pages.{long_length, page_checks, plain_length}
use Rattle.nfs_model.specs.Changing.{Plan, Refuse, Nothing, Operations, plan_about, directory_checks, inode_under, is_empty_under, invalid_times, may_change, may_cut, move_checks, name_checks, too_large, finish, made, made_number, plan, plan_file, plan_file_at, plan_rename_between, same_target, set_attribute_checks, standing, taken, taken_part, plan_unless}
use Rattle.nfs_model.specs.Results.{result, status_number, tail}
use Rattle.nfs_model.proofs.OneReplies.{one_status}

abbrev is_plain_status : NfsStatus → Bool
is_plain_status status.ServerFault = false
is_plain_status _ = true

-- the reply is no refusal with that status
abbrev pub is_plain : Reply → Bool
is_plain (reply.Refused s t) = is_plain_status s
is_plain _ = true

abbrev pub is_plain_plan : Plan → Bool
is_plain_plan (Refuse r) = is_plain r
is_plain_plan (Nothing r) = is_plain r
is_plain_plan (Operations ops) = true

-- ---- the bytes of such a reply

refusal_differs : (s : NfsStatus) (rest more : List ℕ) → is_plain_status s ≡ true → word (status_number s) ++ rest ≡ word (status_number status.ServerFault) ++ more → ⊥
refusal_differs s rest more plain e =
    let same : s ≡ status.ServerFault = (one_status.one s status.ServerFault rest more tt tt e).0 in
    let f : false ≡ true = subst (λ (x : NfsStatus). is_plain_status x ≡ true) same plain in
    absurd (cc f)

zero_differs : (rest more : List ℕ) → word 0 ++ rest ≡ word (status_number status.ServerFault) ++ more → ⊥
zero_differs rest more e = cc

pub plain_differs : (r : Reply) (t : Tail) → is_plain r ≡ true → result r ≡ result (reply.Refused status.ServerFault t) → ⊥
plain_differs reply.Nothing t plain e = cc
plain_differs (reply.Refused s u) t plain e = refusal_differs s (tail u) (tail t) plain e
plain_differs (reply.Attributes a) t plain e = zero_differs _ (tail t) e
plain_differs (reply.Changed w) t plain e = zero_differs _ (tail t) e
plain_differs (reply.Found handle object dir) t plain e = zero_differs _ (tail t) e
plain_differs (reply.Allowed object bits) t plain e = zero_differs _ (tail t) e
plain_differs (reply.Text link text) t plain e = zero_differs _ (tail t) e
plain_differs (reply.Bytes file count eof bytes) t plain e = zero_differs _ (tail t) e
plain_differs (reply.Written w count) t plain e = zero_differs _ (tail t) e
plain_differs (reply.Made handle object w) t plain e = zero_differs _ (tail t) e
plain_differs (reply.Renamed from to) t plain e = zero_differs _ (tail t) e
plain_differs (reply.Linked file w) t plain e = zero_differs _ (tail t) e
plain_differs (reply.Committed w) t plain e = zero_differs _ (tail t) e
plain_differs (reply.Directory dir verifier page eof) t plain e = zero_differs _ (tail t) e
plain_differs (reply.DirectoryPlus dir verifier page eof) t plain e = zero_differs _ (tail t) e
plain_differs (reply.Space object) t plain e = zero_differs _ (tail t) e
plain_differs (reply.Limits object) t plain e = zero_differs _ (tail t) e
plain_differs (reply.Paths object) t plain e = zero_differs _ (tail t) e
plain_differs (reply.Mounted handle) t plain e = zero_differs _ (tail t) e
plain_differs reply.NoSuchPath t plain e = cc
plain_differs reply.NoMounts t plain e = cc
plain_differs reply.Exports t plain e = cc

-- ---- after an object and checks

pub IsPlain : Reply → Type 0
IsPlain r = is_plain r ≡ true

plain : (r : Reply) → is_plain r ≡ true → IsPlain r
unfolding IsPlain
plain r h = h

pub told_plain : (r : Reply) → IsPlain r → is_plain r ≡ true
unfolding IsPlain
told_plain r h = h

pub IsPlainPlan : Plan → Type 0
IsPlainPlan p = is_plain_plan p ≡ true

pub told_planned : (p : Plan) → IsPlainPlan p → is_plain_plan p ≡ true
unfolding IsPlainPlan
told_planned p h = h

planned : (p : Plan) → is_plain_plan p ≡ true → IsPlainPlan p
unfolding IsPlainPlan
planned p h = h

-- the object of a handle, or a plain status
IsPlainObject : Result Object NfsStatus → Type 0
IsPlainObject (Ok o) = Unit {0}
IsPlainObject (Err fault) = is_plain_status fault ≡ true

plain_or : (b : Bool) (fault : NfsStatus) (r : Result Object NfsStatus) → is_plain_status fault ≡ true → IsPlainObject r → IsPlainObject (cond b (Err fault) r)
unfolding IsPlainObject
plain_or true fault r plain h = plain
plain_or false fault r plain h = h

plain_live : (t : Tree) (number : Key) (b : Bool) (i : Option Inode) → is_live t number ≡ b → inode_at t number ≡ i → IsPlainObject (live_object t number)
unfolding IsPlainObject
plain_live t number true (Some i) live at = rw (live, at) tt
plain_live t number true None live at = rw (live, at) refl
plain_live t number false i live at = rw live refl

plain_object : (t : Tree) (view : View) (handle : List ℕ) → IsPlainObject (object_of t view handle)
unfolding IsPlainObject
plain_object t view handle =
    plain_or (not (length handle == 44 && same_bytes (take 4 handle) handle_tag)) status.BadHandle _ refl
    (plain_or (not (same_bytes (take 20 (drop 4 handle)) (view_name view).0)) status.Stale _ refl
    (plain_live t (record { 0 = drop 24 handle }) _ _ refl refl))

abbrev are_plain : List Check → Bool
are_plain checks = list_all (λ c. is_plain_status c.1) checks

both_first : (a b : Bool) → (a && b) ≡ true → a ≡ true
both_first true b h = refl
both_first false b h = cc

both_second : (a b : Bool) → (a && b) ≡ true → b ≡ true
both_second true b h = h
both_second false b h = cc

-- ---- reading

plain_check : (b : Bool) (fault : NfsStatus) (checks : List Check) (with : Tail) (r : Reply)
    → is_plain_status fault ≡ true → IsPlain (answers.unless checks with r) → IsPlain (answers.unless ((b, fault) ∷ checks) with r)
unfolding IsPlain
plain_check true fault checks with r plain h = plain
plain_check false fault checks with r plain h = h

plain_unless : (checks : List Check) (with : Tail) (r : Reply) → are_plain checks ≡ true → IsPlain r → IsPlain (answers.unless checks with r)
plain_unless [] with r plain h = h
plain_unless (c ∷ checks) with r plain h =
    plain_check c.0 c.1 checks with r (both_first (is_plain_status c.1) (are_plain checks) plain) (plain_unless checks with r (both_second (is_plain_status c.1) (are_plain checks) plain) h)

plain_about : (found : Result Object NfsStatus) (with : Tail) (answer : Object → Reply) → IsPlainObject found → ((o : Object) → IsPlain (answer o)) → IsPlain (answers.about found with answer)
unfolding IsPlainObject IsPlain
plain_about (Ok o) with answer plain h = h o
plain_about (Err fault) with answer plain h = plain

plain_inode : (t : Tree) (view : View) (dir : Object) (number : Key) (i : Option Inode) → IsPlain (found_inode t view dir number i)
plain_inode t view dir number None = plain _ refl
plain_inode t view dir number (Some i) = plain _ refl

plain_found : (t : Tree) (view : View) (dir : Object) (number : Option Key) → IsPlain (found t view dir number)
plain_found t view dir None = plain _ refl
plain_found t view dir (Some number) = plain_inode t view dir number (inode_at t number)

module _ (t : Tree) (view : View) (who : Identity) where
  pub answer_is_plain : (args : Args) → IsPlain (answer t view who args)
  answer_is_plain (call.GetAttr handle) = plain_about (object_of t view handle) _ _ (plain_object t view handle) (λ o. plain _ refl)
  answer_is_plain (call.Lookup dir name) =
      plain_about (object_of t view dir) _ _ (plain_object t view dir) (λ o. plain_unless (lookup_checks t who o name) _ _ refl (plain_found t view o (target_of t o.number name)))
  answer_is_plain (call.Access handle bits) = plain_about (object_of t view handle) _ _ (plain_object t view handle) (λ o. plain _ refl)
  answer_is_plain (call.ReadLink handle) = plain_about (object_of t view handle) _ _ (plain_object t view handle) (λ o. plain_unless ((not (link_kind o.inode.kind), status.Inval) ∷ []) _ _ refl (plain _ refl))
  answer_is_plain (call.Read handle offset count) = plain_about (object_of t view handle) _ _ (plain_object t view handle) (λ o. plain_unless ((not (file_kind o.inode.kind), status.Inval) ∷ (not (may_read who o.inode || is_owner who o.inode), status.Acces) ∷ []) _ _ refl (plain _ refl))
  answer_is_plain (call.MkNod dir name node) = plain_about (object_of t view dir) _ _ (plain_object t view dir) (λ o. plain _ refl)
  answer_is_plain (call.ReadDir dir cookie verifier count) = plain_about (object_of t view dir) _ _ (plain_object t view dir) (λ o. plain_unless (page_checks t who o cookie verifier plain_length count) _ _ refl (plain _ refl))
  answer_is_plain (call.ReadDirPlus dir cookie verifier dircount maxcount) = plain_about (object_of t view dir) _ _ (plain_object t view dir) (λ o. plain_unless (page_checks t who o cookie verifier long_length maxcount) _ _ refl (plain _ refl))
  answer_is_plain (call.FsStat handle) = plain_about (object_of t view handle) _ _ (plain_object t view handle) (λ o. plain _ refl)
  answer_is_plain (call.FsInfo handle) = plain_about (object_of t view handle) _ _ (plain_object t view handle) (λ o. plain _ refl)
  answer_is_plain (call.PathConf handle) = plain_about (object_of t view handle) _ _ (plain_object t view handle) (λ o. plain _ refl)
  answer_is_plain (call.Commit file offset count) = plain_about (object_of t view file) _ _ (plain_object t view file) (λ o. plain_unless ((not (file_kind o.inode.kind), status.Inval) ∷ []) _ _ refl (plain _ refl))
  answer_is_plain _ = plain _ refl

-- ---- planning

planned_check : (b : Bool) (fault : NfsStatus) (checks : List Check) (with : Tail) (p : Plan)
    → is_plain_status fault ≡ true → IsPlainPlan (plan_unless checks with p) → IsPlainPlan (plan_unless ((b, fault) ∷ checks) with p)
unfolding IsPlainPlan
planned_check true fault checks with p plain h = plain
planned_check false fault checks with p plain h = h

planned_unless : (checks : List Check) (with : Tail) (p : Plan) → are_plain checks ≡ true → IsPlainPlan p → IsPlainPlan (plan_unless checks with p)
planned_unless [] with p plain h = h
planned_unless (c ∷ checks) with p plain h =
    planned_check c.0 c.1 checks with p (both_first (is_plain_status c.1) (are_plain checks) plain) (planned_unless checks with p (both_second (is_plain_status c.1) (are_plain checks) plain) h)

planned_about : (found : Result Object NfsStatus) (with : Tail) (plan : Object → Plan) → IsPlainObject found → ((o : Object) → IsPlainPlan (plan o)) → IsPlainPlan (plan_about found with plan)
unfolding IsPlainObject IsPlainPlan
planned_about (Ok o) with plan plain h = h o
planned_about (Err fault) with plan plain h = plain

planned_if : (b : Bool) (p q : Plan) → IsPlainPlan p → IsPlainPlan q → IsPlainPlan (cond b p q)
planned_if true p q h g = h
planned_if false p q h g = g

module _ (t : Tree) (view : View) (who : Identity) (now : Moment) (own : PubKey) (seq : ℕ) where
  planned_file_at : (dir : Object) (name : List ℕ) (what : SetWhat) (number : Key) (existing : Option Key) → IsPlainPlan (plan_file_at t view who dir name what now number existing)
  planned_file_at dir name what number None = planned _ refl
  planned_file_at dir name what number (Some old) = planned_if (is_some what.size) _ _ (planned _ refl) (planned _ refl)

  planned_file : (handle name : List ℕ) (guarded : Bool) (what : SetWhat) (number : Key) → IsPlainPlan (plan_file t view who handle name guarded what now number)
  planned_file handle name guarded what number =
      planned_about (object_of t view handle) _ _ (plain_object t view handle) (λ o.
      let existing : Option Key = entry t o.number name in
      planned_unless
      (directory_checks who o ++ name_checks name
      ++ invalid_times what ∷ too_large what.size
      ∷ (is_dot name || is_dot_dot name, status.Exist)
      ∷ (is_some existing && (guarded || not (is_file (inode_under t existing))), status.Exist)
      ∷ (is_some existing && is_some what.size && not (may_cut who (inode_under t existing)), status.Acces) ∷ [])
      (tails.Cache (cache_data t t view o.number)) _ refl (planned_file_at o name what number existing))

  planned_between : (dir : Object) (name : List ℕ) (to_dir : Object) (to_name : List ℕ) → IsPlainPlan (plan_rename_between t view who dir name to_dir to_name)
  planned_between dir name to_dir to_name =
      let moved : Option Key = entry t dir.number name in
      let replaced : Option Key = entry t to_dir.number to_name in
      let both : Tail = tails.TwoCaches (cache_data t t view dir.number) (cache_data t t view to_dir.number) in
      planned_unless
      ((not (directory_kind dir.inode.kind) || not (directory_kind to_dir.inode.kind), status.NotDir)
      ∷ (not (may_change who dir) || not (may_change who to_dir), status.Acces) ∷ []
      ++ name_checks name ++ name_checks to_name
      ++ (is_dot name || is_dot_dot name || is_dot to_name || is_dot_dot to_name, status.Inval)
      ∷ (not (is_some moved), status.NoEnt) ∷ [])
      both _ refl
      (planned_if (same_target moved replaced) (Nothing (reply.Renamed (cache_data t t view dir.number) (cache_data t t view to_dir.number))) _ (planned _ refl)
      (planned_unless (move_checks t to_dir.number moved replaced) both (Operations (op.Rename dir.number name to_dir.number to_name ∷ [])) refl (planned _ refl)))

  pub plan_is_plain : (args : Args) → IsPlainPlan (plan t view who args now own seq)
  plan_is_plain (call.MkDir dir name what) = planned_about (object_of t view dir) _ _ (plain_object t view dir) (λ o. planned_unless (directory_checks who o ++ name_checks name ++ invalid_times what ∷ taken t o name ∷ []) _ _ refl (planned _ refl))
  plan_is_plain (call.RmDir dir name) = planned_about (object_of t view dir) _ _ (plain_object t view dir) (λ o. planned_unless (directory_checks who o ++ name_checks name
      ++ (is_dot name, status.Inval) ∷ (is_dot_dot name, status.Exist) ∷ (not (is_some (entry t o.number name)), status.NoEnt)
      ∷ (not (is_directory (inode_under t (entry t o.number name))), status.NotDir) ∷ (not (is_empty_under t (entry t o.number name)), status.NotEmpty) ∷ []) _ _ refl (planned _ refl))
  plan_is_plain (call.SetAttr object what guard) = planned_about (object_of t view object) _ _ (plain_object t view object) (λ o. planned_unless (set_attribute_checks who o what guard) _ _ refl (planned _ refl))
  plan_is_plain (call.Write file offset count stable bytes) =
      planned_about (object_of t view file) _ _ (plain_object t view file) (λ o. planned_unless ((not (file_kind o.inode.kind), status.Inval)
      ∷ (not (may_write who o.inode || is_owner who o.inode), status.Acces)
      ∷ (not (count == length bytes), status.Inval)
      ∷ (nat_lt longest_file (offset + length (taken_part bytes)), status.FBig) ∷ [])
      _ _ refl (planned_if (length bytes == 0) (Nothing (reply.Written (cache_data t t view o.number) 0)) (Operations (op.Write o.number offset (taken_part bytes) ∷ [])) (planned _ refl) (planned _ refl)))
  plan_is_plain (call.Create dir name (Unchecked what)) = planned_file dir name false what (inode_number own seq)
  plan_is_plain (call.Create dir name (Guarded what)) = planned_file dir name true what (inode_number own seq)
  plan_is_plain (call.Create dir name (Exclusive verifier)) = planned_about (object_of t view dir) _ _ (plain_object t view dir) (λ o. planned_unless (directory_checks who o ++ name_checks name ++ (true, status.NotSupp) ∷ []) _ _ refl (planned _ refl))
  plan_is_plain (call.SymLink dir name what text) = planned_about (object_of t view dir) _ _ (plain_object t view dir) (λ o. planned_unless (directory_checks who o ++ name_checks name
      ++ (nat_lt 1024 (length text), status.NameTooLong) ∷ (length text == 0, status.Inval)
      ∷ invalid_times what ∷ taken t o name ∷ []) _ _ refl (planned _ refl))
  plan_is_plain (call.Remove dir name) = planned_about (object_of t view dir) _ _ (plain_object t view dir) (λ o. planned_unless (directory_checks who o ++ name_checks name
      ++ (is_dot name || is_dot_dot name, status.Inval) ∷ (not (is_some (entry t o.number name)), status.NoEnt)
      ∷ (is_directory (inode_under t (entry t o.number name)), status.IsDir) ∷ []) _ _ refl (planned _ refl))
  plan_is_plain (call.Rename dir name to_dir to_name) =
      planned_about (object_of t view dir) _ _ (plain_object t view dir) (λ o.
      planned_about (object_of t view to_dir) _ _ (plain_object t view to_dir) (λ p. planned_between o name p to_name))
  plan_is_plain (call.Link file dir name) =
      planned_about (object_of t view file) _ _ (plain_object t view file) (λ o.
      planned_about (object_of t view dir) _ _ (plain_object t view dir) (λ p. planned_unless ((directory_kind o.inode.kind, status.Inval) ∷ directory_checks who p ++ name_checks name
      ++ taken t p name ∷ (nat_le 1000 (name_count t o.number), status.MLink) ∷ [])
      _ (Operations (op.Link p.number name o.number ∷ [])) refl (planned _ refl)))
  plan_is_plain _ = planned _ refl

-- ---- once the operations stand

plain_standing : (found : Result Object NfsStatus) (answer : Key → Reply) → ((number : Key) → IsPlain (answer number)) → IsPlain (standing found answer)
plain_standing (Ok o) answer h = h o.number
plain_standing (Err fault) answer h = plain _ refl

module _ (before after : Tree) (view : View) (who : Identity) (ops : List Op) where
  plain_made : (found : Result Object NfsStatus) (number : Option Key) → IsPlain (made before after view found number)
  plain_made (Ok dir) (Some number) = plain _ refl
  plain_made (Ok dir) None = plain _ refl
  plain_made (Err fault) (Some number) = plain _ refl
  plain_made (Err fault) None = plain _ refl

  pub finish_is_plain : (args : Args) → IsPlain (finish before after view who args ops)
  finish_is_plain (call.SetAttr object what guard) = plain_standing (object_of before view object) _ (λ o. plain _ refl)
  finish_is_plain (call.Write file offset count stable bytes) = plain_standing (object_of before view file) _ (λ o. plain _ refl)
  finish_is_plain (call.Create dir name how) = plain_made (object_of before view dir) (made_number ops)
  finish_is_plain (call.MkDir dir name what) = plain_made (object_of before view dir) (made_number ops)
  finish_is_plain (call.SymLink dir name what text) = plain_made (object_of before view dir) (made_number ops)
  finish_is_plain (call.Remove dir name) = plain_standing (object_of before view dir) _ (λ o. plain _ refl)
  finish_is_plain (call.RmDir dir name) = plain_standing (object_of before view dir) _ (λ o. plain _ refl)
  finish_is_plain (call.Rename dir name to_dir to_name) = plain_standing (object_of before view dir) _ (λ d. plain_standing (object_of before view to_dir) _ (λ e. plain _ refl))
  finish_is_plain (call.Link file dir name) = plain_standing (object_of before view file) _ (λ f. plain_standing (object_of before view dir) _ (λ d. plain _ refl))
  finish_is_plain _ = plain _ refl
