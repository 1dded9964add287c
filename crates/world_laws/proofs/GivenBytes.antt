-- What the reply of a turn gives to later lines is bytes.
use Rattle.std.proofs.Common.{◌≡◌, ℕ, ◌+◌, Bool, true, false, cond, not, ◌||◌, ◌&&◌, List, [], ◌∷◌, ◌++◌, length, take, Option, Some, None, Result, Ok, Err, refl, ap, subst}
use Rattle.std.specs.Prelude.{◌==◌, IfSome, flat_map, is_some, nat_le, nat_lt}
use Rattle.std.specs.List.{AllByRecursion}
use Rattle.ivy_base.proofs.NameLemmas.{bytes-digest}
use Rattle.ivy_base.specs.declared.format.Format.TheVariants.{One}
use Rattle.ivy_base.specs.declared.key.Key.{Key}
use Rattle.ivy_base.specs.declared.key.PubKey.{PubKey}
use Rattle.ivy_base.specs.declared.operation.Moment.{Moment}
use Rattle.ivy_base.specs.declared.operation.Op.{Op}
use Rattle.ivy_base.specs.declared.operation.Op.TheVariants as op
use Rattle.ivy_base.specs.Naming.{inode_number, digest}
use Rattle.tree_model.proofs.Sound.{both_false, not_false}
use Rattle.tree_model.specs.Tree.{Tree, Inode, entry, inode_at, is_directory, is_file, listing, name_count, directory_kind, file_kind, longest_file}
use Rattle.wire_model.specs.Rpc.{Identity}
use Rattle.wire_model.specs.Xdr.{word}
use Rattle.log_model.specs.Laws.{NumbersAreKeys}
use Rattle.log_model.specs.Record.{Record}
use Rattle.log_model.specs.Replay.{replay}
use Rattle.log_model.specs.Spelling.{most_records}
use Rattle.log_model.specs.View.{View}
use Rattle.nfs_model.specs.declared.arguments.Args.{Args}
use Rattle.nfs_model.specs.declared.arguments.Args.TheVariants as call
use Rattle.nfs_model.specs.declared.arguments.How.{How}
use Rattle.nfs_model.specs.declared.arguments.How.TheVariants.{Unchecked, Guarded, Exclusive}
use Rattle.nfs_model.specs.declared.arguments.SetWhat.{SetWhat}
use Rattle.nfs_model.specs.declared.replies.NfsStatus.{NfsStatus}
use Rattle.nfs_model.specs.declared.replies.NfsStatus.TheVariants.{Acces, Exist, FBig, Inval, IsDir, MLink, NameTooLong, NoEnt, NotDir, NotEmpty, NotSupp, RoFs, ServerFault}
use Rattle.nfs_model.specs.declared.replies.Reply.{Reply}
use Rattle.nfs_model.specs.declared.replies.Reply.TheVariants as reply
use Rattle.nfs_model.specs.declared.replies.Tail.{Tail}
use Rattle.nfs_model.specs.Answers.{about, unless}
use Rattle.nfs_model.specs.Changing.{Nothing, Operations, Plan, Refuse, plan_about, directory_checks, finish, invalid_times, inode_under, is_changing, is_empty_under, made, made_number, may_change, may_cut, move_checks, name_checks, plan, plan_create, plan_file, plan_file_at, plan_rename_between, same_target, set_attribute_checks, standing, taken, too_large, plan_unless}
use Rattle.nfs_model.specs.Checks.{Check, is_dot, is_dot_dot}
use Rattle.nfs_model.specs.Objects.{Object, is_owner, may_read, may_write, object_of}
use Rattle.nfs_model.specs.Pages.{cookie_verifier, long_length, page_checks, plain_length}
use Rattle.nfs_model.specs.Reading.{answer, found, found_inode, link_kind, lookup_checks, target_of}
use Rattle.turn_model.specs.Turn.{Inputs, Asked, Turned, appended, bare_tail, by_plan, own_seq, turn_on}
use Rattle.session_model.specs.Replies.{handle_given, verifier_given}
use Rattle.turn_laws.proofs.Octets.{take_each}
use Rattle.world_laws.specs.FullTurns.{AreBytes}
use Rattle.world_laws.proofs.PieceBytes.{handle_bytes}

abbrev pub ReplyGives : Reply → Type 0
ReplyGives r = IfSome (handle_given r) AreBytes × IfSome (verifier_given r) AreBytes

-- ---- checks and objects

-- no check fails
abbrev Pass : List Check → Type 0
Pass checks = AllByRecursion (λ c. c.0 ≡ false) checks

-- of plans
module _ (P : Plan → Type 0) (refused : (fault : NfsStatus) (with : Tail) → P (Refuse (reply.Refused fault with))) where
  plan_check : (b : Bool) (fault : NfsStatus) (checks : List Check) (with : Tail) (p : Plan)
      → ((b ≡ false) × Pass checks → P p) → ((Pass checks → P p) → P (plan_unless checks with p)) → P (plan_unless ((b, fault) ∷ checks) with p)
  plan_check true fault checks with p h again = refused fault with
  plan_check false fault checks with p h again = again (λ rest. h (refl, rest))

  plan_checks : (checks : List Check) (with : Tail) (p : Plan) → (Pass checks → P p) → P (plan_unless checks with p)
  plan_checks [] with p h = h tt
  plan_checks (c ∷ checks) with p h = plan_check c.0 c.1 checks with p h (λ g. plan_checks checks with p g)

  plan_object : (at : Result Object NfsStatus) (none : Tail) (p : Object → Plan) → ((o : Object) → P (p o)) → P (plan_about at none p)
  plan_object (Err fault) none p h = refused fault none
  plan_object (Ok o) none p h = h o

  plan_test : (b : Bool) (p q : Plan) → P p → P q → P (cond b p q)
  plan_test true p q f g = f
  plan_test false p q f g = g

-- of answers
answer_check : (b : Bool) (fault : NfsStatus) (checks : List Check) (with : Tail) (r : Reply) → ReplyGives (unless checks with r) → ReplyGives (unless ((b, fault) ∷ checks) with r)
answer_check true fault checks with r h = (tt, tt)
answer_check false fault checks with r h = h

answer_checks : (checks : List Check) (with : Tail) (r : Reply) → ReplyGives r → ReplyGives (unless checks with r)
answer_checks [] with r h = h
answer_checks (c ∷ checks) with r h = answer_check c.0 c.1 checks with r (answer_checks checks with r h)

answer_object : (at : Result Object NfsStatus) (none : Tail) (r : Object → Reply) → ((o : Object) → ReplyGives (r o)) → ReplyGives (about at none r)
answer_object (Err fault) none r h = (tt, tt)
answer_object (Ok o) none r h = h o

-- ---- plans

-- a reply without records gives bytes
abbrev PlanGives : Plan → Type 0
PlanGives (Refuse r) = ReplyGives r
PlanGives (Nothing r) = ReplyGives r
PlanGives (Operations ops) = Unit {0}

-- and the number that the first operation makes or sets is bytes
abbrev PlanMakes : Plan → Type 0
PlanMakes (Refuse r) = ReplyGives r
PlanMakes (Nothing r) = ReplyGives r
PlanMakes (Operations ops) = IfSome (made_number ops) (λ k. AreBytes k.0)

gives_refused : (fault : NfsStatus) (with : Tail) → PlanGives (Refuse (reply.Refused fault with))
gives_refused fault with = (tt, tt)

makes_refused : (fault : NfsStatus) (with : Tail) → PlanMakes (Refuse (reply.Refused fault with))
makes_refused fault with = (tt, tt)

makes_gives : (p : Plan) → PlanMakes p → PlanGives p
makes_gives (Refuse r) h = h
makes_gives (Nothing r) h = h
makes_gives (Operations ops) h = tt

file_is_some : (o : Option Inode) → is_file o ≡ true → is_some o ≡ true
file_is_some None e = cc
file_is_some (Some i) e = refl

module _ (t : Tree) (keys : NumbersAreKeys t) (view : View) (who : Identity) (now : Moment) (own : PubKey) (seq : ℕ) where
  new_number : AreBytes (inode_number own seq).0
  new_number = bytes-digest _

  -- a file that is there has an inode, and so a key as its number
  there : (number : Key) (guarded : Bool) → (guarded || not (is_file (inode_at t number))) ≡ false → AreBytes number.0
  there number guarded free = (keys number (file_is_some (inode_at t number) (not_false (is_file (inode_at t number)) (both_false guarded (not (is_file (inode_at t number))) free).1))).each

  file_at : (dir : Object) (name : List ℕ) (guarded : Bool) (what : SetWhat) (existing : Option Key)
      → (is_some existing && (guarded || not (is_file (inode_under t existing)))) ≡ false → PlanMakes (plan_file_at t view who dir name what now (inode_number own seq) existing)
  file_at dir name guarded what None free = new_number
  file_at dir name guarded what (Some number) free =
      plan_test PlanMakes makes_refused (is_some what.size) (Operations (op.SetAttrs number (record { mode = None; uid = None; gid = None; size = what.size; atime = None; mtime = None }) ∷ [])) _
      (there number guarded free) (handle_bytes view number (there number guarded free), tt)

  makes_file : (handle name : List ℕ) (guarded : Bool) (what : SetWhat) → PlanMakes (plan_file t view who handle name guarded what now (inode_number own seq))
  makes_file handle name guarded what = plan_object PlanMakes makes_refused (object_of t view handle) _ _ (λ dir.
      let existing : Option Key = entry t dir.number name in
      plan_checks PlanMakes makes_refused
      (directory_checks who dir ++ name_checks name
      ++ invalid_times what ∷ too_large what.size
      ∷ (is_dot name || is_dot_dot name, Exist)
      ∷ (is_some existing && (guarded || not (is_file (inode_under t existing))), Exist)
      ∷ (is_some existing && is_some what.size && not (may_cut who (inode_under t existing)), Acces) ∷ []) _ _ (λ passed.
      file_at dir name guarded what existing passed.1.1.1.1.1.1.1.0))

  makes_create : (handle name : List ℕ) (how : How) → PlanMakes (plan_create t view who handle name how now (inode_number own seq))
  makes_create handle name (Unchecked what) = makes_file handle name false what
  makes_create handle name (Guarded what) = makes_file handle name true what
  makes_create handle name (Exclusive verifier) =
      plan_object PlanMakes makes_refused (object_of t view handle) _ _ (λ dir. plan_checks PlanMakes makes_refused (directory_checks who dir ++ name_checks name ++ (true, NotSupp) ∷ []) _ _ (λ passed. (tt, tt)))

  makes_directory : (dir name : List ℕ) (what : SetWhat) → PlanMakes (plan t view who (call.MkDir dir name what) now own seq)
  makes_directory handle name what = plan_object PlanMakes makes_refused (object_of t view handle) _ _ (λ dir.
      plan_checks PlanMakes makes_refused (directory_checks who dir ++ name_checks name ++ invalid_times what ∷ taken t dir name ∷ []) _ _ (λ passed. new_number))

  makes_link : (dir name : List ℕ) (what : SetWhat) (text : List ℕ) → PlanMakes (plan t view who (call.SymLink dir name what text) now own seq)
  makes_link handle name what text = plan_object PlanMakes makes_refused (object_of t view handle) _ _ (λ dir. plan_checks PlanMakes makes_refused
      (directory_checks who dir ++ name_checks name
      ++ (nat_lt 1024 (length text), NameTooLong) ∷ (length text == 0, Inval) ∷ invalid_times what ∷ taken t dir name ∷ []) _ _ (λ passed. new_number))

  gives_rename : (name to_name : List ℕ) (dir to_dir : Object) → PlanGives (plan_rename_between t view who dir name to_dir to_name)
  gives_rename name to_name dir to_dir = plan_checks PlanGives gives_refused
      ((not (directory_kind dir.inode.kind) || not (directory_kind to_dir.inode.kind), NotDir)
      ∷ (not (may_change who dir) || not (may_change who to_dir), Acces) ∷ []
      ++ name_checks name ++ name_checks to_name
      ++ (is_dot name || is_dot_dot name || is_dot to_name || is_dot_dot to_name, Inval)
      ∷ (not (is_some (entry t dir.number name)), NoEnt) ∷ []) _ _ (λ passed.
      plan_test PlanGives gives_refused (same_target (entry t dir.number name) (entry t to_dir.number to_name)) _ _ (tt, tt)
      (plan_checks PlanGives gives_refused (move_checks t to_dir.number (entry t dir.number name) (entry t to_dir.number to_name)) _ _ (λ moves. tt)))

  gives_plan : (args : Args) → PlanGives (plan t view who args now own seq)
  gives_plan (call.MkDir dir name what) = makes_gives (plan t view who (call.MkDir dir name what) now own seq) (makes_directory dir name what)
  gives_plan (call.SymLink dir name what text) = makes_gives (plan t view who (call.SymLink dir name what text) now own seq) (makes_link dir name what text)
  gives_plan (call.Create dir name how) = makes_gives (plan t view who (call.Create dir name how) now own seq) (makes_create dir name how)
  gives_plan (call.RmDir handle name) = plan_object PlanGives gives_refused (object_of t view handle) _ _ (λ dir. plan_checks PlanGives gives_refused
      (directory_checks who dir ++ name_checks name
      ++ (is_dot name, Inval) ∷ (is_dot_dot name, Exist) ∷ (not (is_some (entry t dir.number name)), NoEnt)
      ∷ (not (is_directory (inode_under t (entry t dir.number name))), NotDir) ∷ (not (is_empty_under t (entry t dir.number name)), NotEmpty) ∷ []) _ _ (λ passed. tt))
  gives_plan (call.SetAttr handle what guard) = plan_object PlanGives gives_refused (object_of t view handle) _ _ (λ o. plan_checks PlanGives gives_refused (set_attribute_checks who o what guard) _ _ (λ passed. tt))
  gives_plan (call.Write handle offset count stable bytes) = plan_object PlanGives gives_refused (object_of t view handle) _ _ (λ o. plan_checks PlanGives gives_refused
      ((not (file_kind o.inode.kind), Inval)
      ∷ (not (may_write who o.inode || is_owner who o.inode), Acces)
      ∷ (not (count == length bytes), Inval)
      ∷ (nat_lt longest_file (offset + length (take 8192 bytes)), FBig) ∷ []) _ _ (λ passed. plan_test PlanGives gives_refused (length bytes == 0) _ _ (tt, tt) tt))
  gives_plan (call.Remove handle name) = plan_object PlanGives gives_refused (object_of t view handle) _ _ (λ dir. plan_checks PlanGives gives_refused
      (directory_checks who dir ++ name_checks name
      ++ (is_dot name || is_dot_dot name, Inval) ∷ (not (is_some (entry t dir.number name)), NoEnt) ∷ (is_directory (inode_under t (entry t dir.number name)), IsDir) ∷ []) _ _ (λ passed. tt))
  gives_plan (call.Rename handle name to_handle to_name) =
      plan_object PlanGives gives_refused (object_of t view handle) _ _ (λ dir. plan_object PlanGives gives_refused (object_of t view to_handle) _ _ (λ to_dir. gives_rename name to_name dir to_dir))
  gives_plan (call.Link file_handle handle name) =
      plan_object PlanGives gives_refused (object_of t view file_handle) _ _ (λ file. plan_object PlanGives gives_refused (object_of t view handle) _ _ (λ dir. plan_checks PlanGives gives_refused
      ((directory_kind file.inode.kind, Inval) ∷ directory_checks who dir ++ name_checks name
      ++ taken t dir name ∷ (nat_le 1000 (name_count t file.number), MLink) ∷ []) _ _ (λ passed. tt)))
  gives_plan _ = (tt, tt)

  -- ---- once the records stand

  made_gives : (after : Tree) (dir : Result Object NfsStatus) (number : Option Key) → IfSome number (λ k. AreBytes k.0) → ReplyGives (made t after view dir number)
  made_gives after (Ok dir) (Some number) h = (handle_bytes view number h, tt)
  made_gives after (Ok dir) None h = (tt, tt)
  made_gives after (Err fault) (Some number) h = (tt, tt)
  made_gives after (Err fault) None h = (tt, tt)

  standing_gives : (at : Result Object NfsStatus) (r : Key → Reply) → ((number : Key) → ReplyGives (r number)) → ReplyGives (standing at r)
  standing_gives (Ok o) r h = h o.number
  standing_gives (Err fault) r h = (tt, tt)

  finish_gives : (after : Tree) (args : Args) (ops : List Op) → plan t view who args now own seq ≡ Operations ops → ReplyGives (finish t after view who args ops)
  finish_gives after (call.SetAttr object what guard) ops e = standing_gives (object_of t view object) _ (λ o. (tt, tt))
  finish_gives after (call.Write file offset count stable bytes) ops e = standing_gives (object_of t view file) _ (λ o. (tt, tt))
  finish_gives after (call.Create dir name how) ops e = made_gives after (object_of t view dir) (made_number ops) (subst PlanMakes e (makes_create dir name how))
  finish_gives after (call.MkDir dir name what) ops e = made_gives after (object_of t view dir) (made_number ops) (subst PlanMakes e (makes_directory dir name what))
  finish_gives after (call.SymLink dir name what text) ops e = made_gives after (object_of t view dir) (made_number ops) (subst PlanMakes e (makes_link dir name what text))
  finish_gives after (call.Remove dir name) ops e = standing_gives (object_of t view dir) _ (λ d. (tt, tt))
  finish_gives after (call.RmDir dir name) ops e = standing_gives (object_of t view dir) _ (λ d. (tt, tt))
  finish_gives after (call.Rename dir name to_dir to_name) ops e = standing_gives (object_of t view dir) _ (λ d. standing_gives (object_of t view to_dir) _ (λ o. (tt, tt)))
  finish_gives after (call.Link file dir name) ops e = standing_gives (object_of t view file) _ (λ d. standing_gives (object_of t view dir) _ (λ o. (tt, tt)))
  finish_gives after _ ops e = (tt, tt)

  -- ---- what reading procedures answer

  found_inode_gives : (dir : Object) (number : Key) (o : Option Inode) → inode_at t number ≡ o → ReplyGives (found_inode t view dir number o)
  found_inode_gives dir number None e = (tt, tt)
  found_inode_gives dir number (Some i) e = (handle_bytes view number (keys number (ap is_some e)).each, tt)

  found_gives : (dir : Object) (number : Option Key) → ReplyGives (found t view dir number)
  found_gives dir None = (tt, tt)
  found_gives dir (Some number) = found_inode_gives dir number (inode_at t number) refl

  verifier_bytes : (dir : Key) → AreBytes (cookie_verifier t dir)
  verifier_bytes dir = take_each 8 (digest (flat_map (λ e. word (length e.0) ++ e.0 ++ e.1.0) (listing t dir))).0 (bytes-digest (flat_map (λ e. word (length e.0) ++ e.0 ++ e.1.0) (listing t dir)))

  answer_gives : (args : Args) → ReplyGives (answer t view who args)
  answer_gives (call.GetAttr handle) = answer_object (object_of t view handle) _ _ (λ o. (tt, tt))
  answer_gives (call.Lookup handle name) = answer_object (object_of t view handle) _ _ (λ dir. answer_checks (lookup_checks t who dir name) _ _ (found_gives dir (target_of t dir.number name)))
  answer_gives (call.Access handle bits) = answer_object (object_of t view handle) _ _ (λ o. (tt, tt))
  answer_gives (call.ReadLink handle) = answer_object (object_of t view handle) _ _ (λ o. answer_checks ((not (link_kind o.inode.kind), Inval) ∷ []) _ _ (tt, tt))
  answer_gives (call.Read handle offset count) = answer_object (object_of t view handle) _ _ (λ o. answer_checks ((not (file_kind o.inode.kind), Inval) ∷ (not (may_read who o.inode || is_owner who o.inode), Acces) ∷ []) _ _ (tt, tt))
  answer_gives (call.MkNod handle name node) = answer_object (object_of t view handle) _ _ (λ o. (tt, tt))
  answer_gives (call.ReadDir handle cookie verifier count) =
      answer_object (object_of t view handle) _ _ (λ dir. answer_checks (page_checks t who dir cookie verifier plain_length count) _ _ (tt, verifier_bytes dir.number))
  answer_gives (call.ReadDirPlus handle cookie verifier dircount maxcount) =
      answer_object (object_of t view handle) _ _ (λ dir. answer_checks (page_checks t who dir cookie verifier long_length maxcount) _ _ (tt, verifier_bytes dir.number))
  answer_gives (call.FsStat handle) = answer_object (object_of t view handle) _ _ (λ o. (tt, tt))
  answer_gives (call.FsInfo handle) = answer_object (object_of t view handle) _ _ (λ o. (tt, tt))
  answer_gives (call.PathConf handle) = answer_object (object_of t view handle) _ _ (λ o. (tt, tt))
  answer_gives (call.Commit handle offset count) = answer_object (object_of t view handle) _ _ (λ o. answer_checks ((not (file_kind o.inode.kind), Inval) ∷ []) _ _ (tt, tt))
  answer_gives _ = (tt, tt)

-- ---- turns

module _ (i : Inputs) (s : List Record) (asked : Asked) (now : Moment) (keys : NumbersAreKeys (replay s)) where
  by_plan_gives : (p : Plan) → plan (replay s) i.view asked.caller asked.args now i.own (own_seq i.own s + 1) ≡ p → ReplyGives (by_plan i s asked now p).reply
  by_plan_gives (Refuse r) e = subst PlanGives e (gives_plan (replay s) keys i.view asked.caller now i.own (own_seq i.own s + 1) asked.args)
  by_plan_gives (Nothing r) e = subst PlanGives e (gives_plan (replay s) keys i.view asked.caller now i.own (own_seq i.own s + 1) asked.args)
  by_plan_gives (Operations ops) e = by (i.leaves == 0 || nat_lt most_records (own_seq i.own s + length ops)) i.has_failed
    where
      full : ReplyGives (finish (replay s) (replay (appended i.own One now s ops)) i.view asked.caller asked.args ops)
      full = finish_gives (replay s) keys i.view asked.caller now i.own (own_seq i.own s + 1) (replay (appended i.own One now s ops)) asked.args ops e

      by : (b c : Bool) → ReplyGives (cond {A = Turned} b (record { reply = reply.Refused RoFs (bare_tail asked.args); set = s })
          (cond c (record { reply = reply.Refused ServerFault (bare_tail asked.args); set = s }) (record { reply = finish (replay s) (replay (appended i.own One now s ops)) i.view asked.caller asked.args ops; set = appended i.own One now s ops }))).reply
      by true c = (tt, tt)
      by false true = (tt, tt)
      by false false = full

  pub turn_gives : ReplyGives (turn_on i s asked now).reply
  turn_gives = by (is_changing asked.args)
    where
      by : (b : Bool) → ReplyGives (cond b (by_plan i s asked now (plan (replay s) i.view asked.caller asked.args now i.own (own_seq i.own s + 1))) (record { reply = answer (replay s) i.view asked.caller asked.args; set = s })).reply
      by true = by_plan_gives (plan (replay s) i.view asked.caller asked.args now i.own (own_seq i.own s + 1)) refl
      by false = answer_gives (replay s) keys i.view asked.caller now i.own 0 asked.args
