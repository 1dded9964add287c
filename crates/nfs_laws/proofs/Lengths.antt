-- Every result is short.
use Rattle.std.proofs.Common.{◌≡◌, ℕ, ◌≤◌, min, Bool, true, false, cond, not, ◌||◌, List, [], ◌∷◌, length, drop, Option, Some, None, Result, Ok, Err, refl, subst, arith, length-take}
use Rattle.std.specs.Prelude.{unwrap_or, IfSome}
use Rattle.ivy_base.specs.declared.key.Key.{Key}
use Rattle.ivy_base.specs.declared.operation.Kind.{Kind}
use Rattle.ivy_base.specs.declared.operation.Kind.TheVariants.{Reg, Dir, Lnk}
use Rattle.ivy_base.specs.declared.operation.Op.{Op}
use Rattle.ivy_base.specs.Naming.{root_number}
use Rattle.tree_model.specs.Tree.{Tree, Inode, inode_at, entry, parent, file_kind}
use Rattle.log_model.specs.Laws.{NumbersAreKeys}
use Rattle.log_model.specs.Spelling.{IsKey}
use Rattle.log_model.specs.View.{View}
use Rattle.wire_model.specs.Rpc.{Identity}
use Rattle.nfs_model.specs.declared.arguments.Args.{Args}
use Rattle.nfs_model.specs.declared.arguments.Args.TheVariants as call
use Rattle.nfs_model.specs.declared.replies.Fattr.{Fattr}
use Rattle.nfs_model.specs.declared.replies.Listed.{Listed}
use Rattle.nfs_model.specs.declared.replies.NfsStatus.{NfsStatus}
use Rattle.nfs_model.specs.declared.replies.NfsStatus.TheVariants.{Inval, Acces}
use Rattle.nfs_model.specs.declared.replies.Tail.{Tail}
use Rattle.nfs_model.specs.declared.replies.Reply.{Reply}
use Rattle.nfs_model.specs.declared.replies.Reply.TheVariants as reply
use Rattle.nfs_model.specs.Answers.{about, unless}
use Rattle.nfs_model.specs.Changing.{Plan, Refuse, Nothing, Operations, plan, made_number, made, standing, finish}
use Rattle.nfs_model.specs.Checks.{Check, is_dot, is_dot_dot, same_bytes}
use Rattle.nfs_model.specs.Objects.{Object, handle_of, object_of, may_read, is_owner, attributes}
use Rattle.nfs_model.specs.Pages.{entries_from, plain_length, long_length, page_checks, read_directory, read_directory_plus}
use Rattle.nfs_model.specs.Reading.{answer, mount_answer, get_attributes, lookup, lookup_checks, target_of, found, found_inode, access, link_kind, read_link, part, read, make_node, commit, with_attributes}
use Rattle.nfs_laws.specs.Lengths.{HasRoom, plain, plus, NamesAreKeys, LinksAreShort, PagesFit, AnswersFit, MountsFit, PlansFit, FinishesFit, IsShortPlan}
use Rattle.nfs_laws.proofs.Ways.{Pass, of_unless, of_about, is_object}
use Rattle.nfs_laws.proofs.Sizes.{IsShort, short_nothing, short_refused, short_attributes, short_changed, short_found, short_allowed, short_text, short_bytes, short_written, short_made, short_renamed, short_linked, short_committed, short_space, short_limits, short_paths, short_mounted, short_no_such_path, short_no_mounts, short_exports}
use Rattle.nfs_laws.proofs.Plans.{Goes, HasKey, goes_plan}
use Rattle.nfs_laws.proofs.Pages.{Holds, holds}
use Rattle.nfs_laws.proofs.PageSizes.{IsInRoom, numbers_from, most_directory, most_directory_plus}
use Rattle.nfs_laws.proofs.Trees.{key_at, key_above}

-- ---- what changing procedures answer

short_plan : (t : Tree) (p : Plan) → Goes t p → NumbersAreKeys t → IsShortPlan p
short_plan t (Refuse reply) goes keys = (goes keys).most
short_plan t (Nothing reply) goes keys = (goes keys).most
short_plan t (Operations ops) goes keys = tt

pub plans_fit : PlansFit
plans_fit t view who args now own seq keys = short_plan t (plan t view who args now own seq) (goes_plan t view who now own seq args) keys

-- the new object, or the file that was there
short_made_of : (before after : Tree) (view : View) (found : Result Object NfsStatus) (number : Option Key) → HasKey number → IsShort (made before after view found number)
short_made_of before after view (Ok dir) (Some number) key = short_made view number _ _ key
short_made_of before after view (Ok dir) None key = short_nothing
short_made_of before after view (Err fault) (Some number) key = short_nothing
short_made_of before after view (Err fault) None key = short_nothing

short_standing : (found : Result Object NfsStatus) (answer : Key → Reply) → ((number : Key) → IsShort (answer number)) → IsShort (standing found answer)
short_standing (Ok o) answer short = short o.number
short_standing (Err fault) answer short = short_nothing

short_finish : (before after : Tree) (view : View) (who : Identity) (args : Args) (ops : List Op) → HasKey (made_number ops) → IsShort (finish before after view who args ops)
short_finish before after view who (call.SetAttr object what guard) ops key = short_standing (object_of before view object) _ (λ o. short_changed _)
short_finish before after view who (call.Write file offset count stable bytes) ops key = short_standing (object_of before view file) _ (λ o. short_written _ _)
short_finish before after view who (call.Create dir name how) ops key = short_made_of before after view (object_of before view dir) (made_number ops) key
short_finish before after view who (call.MkDir dir name what) ops key = short_made_of before after view (object_of before view dir) (made_number ops) key
short_finish before after view who (call.SymLink dir name what text) ops key = short_made_of before after view (object_of before view dir) (made_number ops) key
short_finish before after view who (call.Remove dir name) ops key = short_standing (object_of before view dir) _ (λ d. short_changed _)
short_finish before after view who (call.RmDir dir name) ops key = short_standing (object_of before view dir) _ (λ d. short_changed _)
short_finish before after view who (call.Rename dir name to_dir to_name) ops key =
    short_standing (object_of before view dir) _ (λ d. short_standing (object_of before view to_dir) _ (λ e. short_renamed _ _))
short_finish before after view who (call.Link file dir name) ops key =
    short_standing (object_of before view file) _ (λ f. short_standing (object_of before view dir) _ (λ d. short_linked _ _))
short_finish before after view who _ ops key = short_nothing

pub finishes_fit : FinishesFit
finishes_fit before after view who args now own seq ops keys planned =
    let goes = subst (λ (p : Plan). Goes before p) planned (goes_plan before view who now own seq args) in
    (short_finish before after view who args ops (goes.2 keys)).most

-- ---- what reading procedures answer

module _ (t : Tree) (view : View) (who : Identity) where
  behind_checks : (checks : List Check) (with : Tail) (r : Reply) → (Pass checks → IsShort r) → IsShort (unless checks with r)
  behind_checks = of_unless IsShort short_refused

  behind_object : (found : Result Object NfsStatus) (none : Tail) (answer : Object → Reply) → ((o : Object) → found ≡ Ok o → IsShort (answer o)) → IsShort (about found none answer)
  behind_object = of_about IsShort short_refused

  short_get_attributes : (handle : List ℕ) → IsShort (get_attributes t view handle)
  short_get_attributes handle = behind_object (object_of t view handle) _ _ (λ o e. short_attributes (attributes t view o))

  short_found_inode : (dir : Object) (number : Key) (i : Option Inode) → length number.0 ≡ 20 → IsShort (found_inode t view dir number i)
  short_found_inode dir number None key = short_refused _ _
  short_found_inode dir number (Some i) key = short_found view number _ _ key

  short_found_at : (dir : Object) (number : Option Key) → HasKey number → IsShort (found t view dir number)
  short_found_at dir None key = short_refused _ _
  short_found_at dir (Some number) key = short_found_inode dir number (inode_at t number) key

  size_of_key : (number : Option Key) → IfSome number IsKey → HasKey number
  size_of_key None key = tt
  size_of_key (Some number) key = key.size

  size_above : (above : Option Key) (dir : Key) → IfSome above IsKey → length dir.0 ≡ 20 → length (unwrap_or above dir).0 ≡ 20
  size_above None dir key size = size
  size_above (Some number) dir key size = key.size

  pub target_has_key : (dir : Key) (name : List ℕ) → NamesAreKeys t → length dir.0 ≡ 20 → HasKey (target_of t dir name)
  target_has_key dir name keys size = by (is_dot name) (is_dot_dot name)
    where
      by : (b c : Bool) → HasKey (cond b (Some dir) (cond c (Some (unwrap_or (parent t dir) dir)) (entry t dir name)))
      by true c = size
      by false true = size_above (parent t dir) dir (key_above t.names dir keys) size
      by false false = size_of_key (entry t dir name) (key_at t.names (dir, name) keys)

  short_lookup : (handle name : List ℕ) → NamesAreKeys t → IsShort (lookup t view who handle name)
  short_lookup handle name keys = behind_object (object_of t view handle) _ _ (λ dir e. behind_checks (lookup_checks t who dir name) _ _ (λ passed.
      short_found_at dir (target_of t dir.number name) (target_has_key dir.number name keys (is_object t view handle dir e).number)))

  short_access : (handle : List ℕ) (bits : ℕ) → IsShort (access t view who handle bits)
  short_access handle bits = behind_object (object_of t view handle) _ _ (λ o e. short_allowed _ _)

  is_link : (kind : Kind) → not (link_kind kind) ≡ false → kind ≡ Lnk
  is_link Reg passed = cc
  is_link Dir passed = cc
  is_link Lnk passed = refl

  short_read_link : (handle : List ℕ) → LinksAreShort t → IsShort (read_link t view handle)
  short_read_link handle short = behind_object (object_of t view handle) _ _ (λ o e. behind_checks ((not (link_kind o.inode.kind), Inval) ∷ []) _ _ (λ passed.
      short_text _ o.inode.body (short o.number o.inode (is_object t view handle o e).inode (is_link o.inode.kind passed.0))))

  pub few_read : (bytes : List ℕ) (offset count : ℕ) → length (part bytes offset count) ≤ 8192
  few_read bytes offset count = omega (arith, length-take (min count 8192) (drop offset bytes))

  short_read : (handle : List ℕ) (offset count : ℕ) → IsShort (read t view who handle offset count)
  short_read handle offset count = behind_object (object_of t view handle) _ _ (λ o e. behind_checks
      ((not (file_kind o.inode.kind), Inval) ∷ (not (may_read who o.inode || is_owner who o.inode), Acces) ∷ []) _ _ (λ passed.
      short_bytes _ _ _ (part o.inode.body offset count) (few_read o.inode.body offset count)))

  short_make_node : (handle : List ℕ) → IsShort (make_node t view handle)
  short_make_node handle = behind_object (object_of t view handle) _ _ (λ o e. short_refused _ _)

  short_commit : (handle : List ℕ) → IsShort (commit t view handle)
  short_commit handle = behind_object (object_of t view handle) _ _ (λ o e. behind_checks ((not (file_kind o.inode.kind), Inval) ∷ []) _ _ (λ passed. short_committed _))

  short_with_attributes : (handle : List ℕ) (numbers : Option Fattr → Reply) → ((o : Option Fattr) → IsShort (numbers o)) → IsShort (with_attributes t view handle numbers)
  short_with_attributes handle numbers short = behind_object (object_of t view handle) _ _ (λ o e. short _)

  -- ---- pages

  short_page : {r : Reply} (count : ℕ) → IsInRoom count r → IsShort r
  short_page count page = record { most = omega (arith, page.most) }

  short_read_directory : (handle : List ℕ) (cookie : ℕ) (verifier : List ℕ) (count : ℕ) → IsShort (read_directory t view who handle cookie verifier count)
  short_read_directory handle cookie verifier count = behind_object (object_of t view handle) _ _ (λ dir e. behind_checks (page_checks t who dir cookie verifier plain_length count) _ _ (λ passed.
      short_page count (most_directory count t dir.number _ _ (entries_from t dir.number cookie))))

  short_read_directory_plus : (handle : List ℕ) (cookie : ℕ) (verifier : List ℕ) (dircount maxcount : ℕ) → NamesAreKeys t → IsShort (read_directory_plus t view who handle cookie verifier dircount maxcount)
  short_read_directory_plus handle cookie verifier dircount maxcount keys = behind_object (object_of t view handle) _ _ (λ dir e. behind_checks (page_checks t who dir cookie verifier long_length maxcount) _ _ (λ passed.
      short_page maxcount (most_directory_plus maxcount dircount t view dir.number _ _ (entries_from t dir.number cookie) passed.1.1.1.0 (numbers_from t dir.number cookie keys (is_object t view handle dir e).number))))

  short_answer : (args : Args) → NamesAreKeys t → LinksAreShort t → IsShort (answer t view who args)
  short_answer (call.GetAttr handle) keys short = short_get_attributes handle
  short_answer (call.Lookup dir name) keys short = short_lookup dir name keys
  short_answer (call.Access handle bits) keys short = short_access handle bits
  short_answer (call.ReadLink handle) keys short = short_read_link handle short
  short_answer (call.Read handle offset count) keys short = short_read handle offset count
  short_answer (call.MkNod dir name node) keys short = short_make_node dir
  short_answer (call.ReadDir dir cookie verifier count) keys short = short_read_directory dir cookie verifier count
  short_answer (call.ReadDirPlus dir cookie verifier dircount maxcount) keys short = short_read_directory_plus dir cookie verifier dircount maxcount keys
  short_answer (call.FsStat handle) keys short = short_with_attributes handle reply.Space short_space
  short_answer (call.FsInfo handle) keys short = short_with_attributes handle reply.Limits short_limits
  short_answer (call.PathConf handle) keys short = short_with_attributes handle reply.Paths short_paths
  short_answer (call.Commit file offset count) keys short = short_commit file
  short_answer _ keys short = short_nothing

  -- a page, where the reply is one
  module _ (count : ℕ) (given : List ℕ) (page : List Listed) (eof : Bool) where
    abbrev IsPageInRoom : Reply → Type 0
    IsPageInRoom r = Holds given page eof r → IsInRoom count r

    no_page : (fault : NfsStatus) (with : Tail) → IsPageInRoom (reply.Refused fault with)
    no_page fault with h = absurd h

    room_of_directory : (handle : List ℕ) (cookie : ℕ) (verifier : List ℕ) → IsPageInRoom (read_directory t view who handle cookie verifier count)
    room_of_directory handle cookie verifier = of_about IsPageInRoom no_page (object_of t view handle) _ _ (λ dir e. of_unless IsPageInRoom no_page (page_checks t who dir cookie verifier plain_length count) _ _ (λ passed h.
        most_directory count t dir.number _ _ (entries_from t dir.number cookie)))

    room_of_directory_plus : (handle : List ℕ) (cookie : ℕ) (verifier : List ℕ) (dircount : ℕ) → NamesAreKeys t → IsPageInRoom (read_directory_plus t view who handle cookie verifier dircount count)
    room_of_directory_plus handle cookie verifier dircount keys = of_about IsPageInRoom no_page (object_of t view handle) _ _ (λ dir e. of_unless IsPageInRoom no_page (page_checks t who dir cookie verifier long_length count) _ _ (λ passed h.
        most_directory_plus count dircount t view dir.number _ _ (entries_from t dir.number cookie) passed.1.1.1.0 (numbers_from t dir.number cookie keys (is_object t view handle dir e).number)))

    room_of_page : (args : Args) → NamesAreKeys t → HasRoom count args → IsPageInRoom (answer t view who args)
    room_of_page _ keys (plain handle cookie verifier) = room_of_directory handle cookie verifier
    room_of_page _ keys (plus handle cookie verifier dircount) = room_of_directory_plus handle cookie verifier dircount keys

pub pages_fit : PagesFit
pages_fit t view who args count verifier page eof keys room is =
    (room_of_page t view who count verifier page eof args keys room (holds verifier page eof (answer t view who args) is)).most

pub answers_fit : AnswersFit
answers_fit t view who args keys short = (short_answer t view who args keys short).most

-- ---- what MOUNT answers

short_mount : (view : View) (args : Args) → IsShort (mount_answer view args)
short_mount view (call.Mnt path) = by (same_bytes path (47 ∷ []))
  where
    by : (b : Bool) → IsShort (cond b (reply.Mounted (handle_of view root_number)) reply.NoSuchPath)
    by true = short_mounted view root_number refl
    by false = short_no_such_path
short_mount view call.Dump = short_no_mounts
short_mount view call.Export = short_exports
short_mount view _ = short_nothing

pub mounts_fit : MountsFit
mounts_fit view args = (short_mount view args).most
