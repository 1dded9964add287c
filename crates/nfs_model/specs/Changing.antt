-- What a changing procedure plans on the tree, and what it answers once its records stand.
use Rattle.std.specs.Prelude.{ℕ, ◌+◌, ◌%◌, nat_le, nat_lt, take, option_map, Bool, true, false, ◌||◌, ◌&&◌, not, List, [], ◌∷◌, ◌++◌}
use Rattle.std.specs.Prelude.{length, Option, Some, None, is_some, unwrap_or, ◌==◌, if◌then◌else◌, Result, Ok, Err}
use Rattle.ivy_base.specs.declared.key.Key.{Key}
use Rattle.ivy_base.specs.declared.key.PubKey.{PubKey}
use Rattle.ivy_base.specs.declared.operation.Kind.{Kind}
use Rattle.ivy_base.specs.declared.operation.Kind.TheVariants.{Reg, Dir, Lnk}
use Rattle.ivy_base.specs.declared.operation.Moment.{Moment}
use Rattle.ivy_base.specs.declared.operation.Change.{Change}
use Rattle.ivy_base.specs.declared.operation.Op.{Op}
use Rattle.ivy_base.specs.declared.operation.Op.TheVariants as op
use Rattle.ivy_base.specs.Naming.{inode_number}
use Rattle.std.specs.Option.{option_map_or}
use Rattle.tree_model.specs.Tree.{Tree, Inode, entry, inode_at, directory_kind, file_kind, is_directory, is_file, is_empty_directory}
use Rattle.tree_model.specs.Tree.{is_inside, same_key, name_count, longest_file}
use Rattle.tree_model.specs.Apply.{same_bool}
use Rattle.nfs_model.specs.declared.arguments.How.{How}
use Rattle.nfs_model.specs.declared.arguments.How.TheVariants.{Unchecked, Guarded, Exclusive}
use Rattle.log_model.specs.View.{View}
use Rattle.wire_model.specs.Rpc.{Identity}
use Rattle.nfs_model.specs.declared.arguments.Args.{Args}
use Rattle.nfs_model.specs.declared.arguments.Args.TheVariants as call
use Rattle.nfs_model.specs.declared.arguments.SetTime.{SetTime}
use Rattle.nfs_model.specs.declared.arguments.SetTime.TheVariants.{Keep, Server, Client}
use Rattle.nfs_model.specs.declared.arguments.SetWhat.{SetWhat}
use Rattle.nfs_model.specs.declared.replies.NfsStatus.{NfsStatus}
use Rattle.nfs_model.specs.declared.replies.NfsStatus.TheVariants as status
use Rattle.nfs_model.specs.declared.replies.Tail.{Tail}
use Rattle.nfs_model.specs.declared.replies.Tail.TheVariants as tail
use Rattle.nfs_model.specs.declared.replies.Wcc.{Wcc}
use Rattle.nfs_model.specs.declared.replies.Fattr.{Fattr}
use Rattle.nfs_model.specs.declared.replies.Reply.{Reply}
use Rattle.nfs_model.specs.declared.replies.Reply.TheVariants as reply
use Rattle.nfs_model.specs.Checks.{Check, first_failure, too_long_name, invalid_name, is_dot, is_dot_dot}
use Rattle.nfs_model.specs.Objects.{Object, object_of, handle_of, attributes, attributes_at, cache_data, no_cache_data, may_write}
use Rattle.nfs_model.specs.Objects.{may_search, is_owner, is_in_group}

-- the procedures that may write records
abbrev pub is_changing : Args → Bool
is_changing (call.SetAttr object what guard) = true
is_changing (call.Write file offset count stable bytes) = true
is_changing (call.Create dir name how) = true
is_changing (call.MkDir dir name what) = true
is_changing (call.SymLink dir name what text) = true
is_changing (call.Remove dir name) = true
is_changing (call.RmDir dir name) = true
is_changing (call.Rename dir name to_dir to_name) = true
is_changing (call.Link file dir name) = true
is_changing _ = false

-- a refusal, an answer without a record, or the operations of one to three records
pub data Plan : Type 0 where
  Refuse : (reply : Reply) → Plan
  Nothing : (reply : Reply) → Plan
  Operations : (ops : List Op) → Plan

-- the plan where no check fails, or a refusal with this tail
abbrev pub plan_unless : List Check → Tail → Plan → Plan
plan_unless checks with otherwise = refused_or (first_failure checks) with otherwise
  where
    refused_or : Option NfsStatus → Tail → Plan → Plan
    refused_or None with otherwise = otherwise
    refused_or (Some fault) with otherwise = Refuse (reply.Refused fault with)

-- the plan about the object of the handle, or the handle's fault with this tail
abbrev pub plan_about : Result Object NfsStatus → Tail → (Object → Plan) → Plan
plan_about (Err fault) none plan = Refuse (reply.Refused fault none)
plan_about (Ok o) none plan = plan o

-- ---- the times and the modes that a client gives

-- a client's time with nanoseconds of 10^9 or more
abbrev pub is_invalid_time : SetTime → Bool
is_invalid_time Keep = false
is_invalid_time Server = false
is_invalid_time (Client m) = nat_le 1000000000 m.nsec

abbrev pub is_client_time : SetTime → Bool
is_client_time Keep = false
is_client_time Server = false
is_client_time (Client m) = true

abbrev pub is_server_time : SetTime → Bool
is_server_time Keep = false
is_server_time Server = true
is_server_time (Client m) = false

-- a size above 16,777,216
abbrev pub too_large : Option ℕ → Check
too_large size = (option_map_or (nat_lt longest_file) size false, status.FBig)

-- the time that is asked for: none, the turn's moment, or the client's
abbrev pub given_time : Moment → SetTime → Option Moment
given_time now Keep = None
given_time now Server = Some now
given_time now (Client m) = Some m

abbrev pub invalid_times : SetWhat → Check
invalid_times what = (is_invalid_time what.atime || is_invalid_time what.mtime, status.Inval)

-- the low 12 bits of a mode
abbrev pub permission_bits : ℕ → ℕ
permission_bits mode = mode % 4096

-- the mode where none is given: 0644, 0755 and 0777
abbrev pub usual_mode : Kind → ℕ
usual_mode Reg = 420
usual_mode Dir = 493
usual_mode Lnk = 511

abbrev pub given_mode : Kind → Option ℕ → ℕ
given_mode kind None = usual_mode kind
given_mode kind (Some mode) = permission_bits mode

-- the caller's, or where the caller is the superuser the given one
abbrev pub new_owner : Identity → ℕ → Option ℕ → ℕ
new_owner who own given = if who.uid == 0 then unwrap_or given own else own

-- ---- new objects

-- names of a directory are changed by whom may write and search it
abbrev pub may_change : Identity → Object → Bool
may_change who dir = may_write who dir.inode && may_search who dir.inode

-- the checks on a directory in which a name is to be changed
abbrev pub directory_checks : Identity → Object → List Check
directory_checks who dir =
    (not (directory_kind dir.inode.kind), status.NotDir)
    ∷ (not (may_change who dir), status.Acces) ∷ []

-- and on the name
abbrev pub name_checks : List ℕ → List Check
name_checks name = too_long_name name ∷ invalid_name name ∷ []

-- the name is there
abbrev pub taken : Tree → Object → List ℕ → Check
taken t dir name = (is_dot name || is_dot_dot name || is_some (entry t dir.number name), status.Exist)

-- the operation that makes an inode, with the caller as its owner
abbrev pub make : Identity → Kind → SetWhat → Key → List ℕ → Op
make who kind what number target =
    op.Inode number kind (given_mode kind what.mode) (new_owner who who.uid what.uid) (new_owner who who.gid what.gid) target

-- of what is asked for the times alone
abbrev pub only_times : Moment → SetWhat → Change
only_times now what = record {
  mode = None;
  uid = None;
  gid = None;
  size = None;
  atime = given_time now what.atime;
  mtime = given_time now what.mtime;
}

-- the operation that sets the times, where one is given
abbrev pub set_times : Moment → SetWhat → Key → List Op
set_times now what number =
    if is_some (given_time now what.atime) || is_some (given_time now what.mtime)
    then op.SetAttrs number (only_times now what) ∷ [] else []

-- MKDIR (3.3.9); a size is passed over
abbrev pub plan_directory : Tree → View → Identity → List ℕ → List ℕ → SetWhat → Moment → Key → Plan
plan_directory t view who handle name what now number = plan_about (object_of t view handle) (tail.Cache no_cache_data) (λ dir.
    plan_unless (directory_checks who dir ++ name_checks name ++ invalid_times what ∷ taken t dir name ∷ [])
    (tail.Cache (cache_data t t view dir.number))
    (Operations (make who Dir what number [] ∷ op.Link dir.number name number ∷ set_times now what number)))

-- what the inode is that a name leads to
abbrev pub inode_under : Tree → Option Key → Option Inode
inode_under t None = None
inode_under t (Some number) = inode_at t number

-- where the name leads to nothing, nothing is in it
abbrev pub is_empty_under : Tree → Option Key → Bool
is_empty_under t None = true
is_empty_under t (Some number) = is_empty_directory t number

-- SYMLINK (3.3.10): a text of 1 to 1,024 bytes; a size is passed over
abbrev pub plan_symbolic_link : Tree → View → Identity → List ℕ → List ℕ → SetWhat → List ℕ → Moment → Key → Plan
plan_symbolic_link t view who handle name what text now number = plan_about (object_of t view handle) (tail.Cache no_cache_data) (λ dir.
    plan_unless (directory_checks who dir ++ name_checks name
    ++ (nat_lt 1024 (length text), status.NameTooLong) ∷ (length text == 0, status.Inval)
    ∷ invalid_times what ∷ taken t dir name ∷ [])
    (tail.Cache (cache_data t t view dir.number))
    (Operations (make who Lnk what number text ∷ op.Link dir.number name number ∷ set_times now what number)))

-- a file that is there: its size is set where one is given
abbrev pub plan_existing : Tree → View → Object → Key → SetWhat → Plan
plan_existing t view dir number what =
    if is_some what.size
    then Operations (op.SetAttrs number (record { mode = None; uid = None; gid = None; size = what.size; atime = None; mtime = None }) ∷ [])
    else Nothing (reply.Made (handle_of view number) (attributes_at t view number) (cache_data t t view dir.number))

abbrev pub is_positive : Option ℕ → Bool
is_positive None = false
is_positive (Some n) = nat_lt 0 n

-- a new file: times are set where given, and a size where it is above 0
abbrev pub plan_new : Identity → Object → List ℕ → SetWhat → Moment → Key → Plan
plan_new who dir name what now number = Operations (make who Reg what number [] ∷ op.Link dir.number name number ∷
    (if is_positive what.size || is_some (given_time now what.atime) || is_some (given_time now what.mtime)
    then op.SetAttrs number (record {
      mode = None;
      uid = None;
      gid = None;
      size = (if is_positive what.size then what.size else None);
      atime = given_time now what.atime;
      mtime = given_time now what.mtime;
    }) ∷ [] else []))

abbrev pub plan_file_at : Tree → View → Identity → Object → List ℕ → SetWhat → Moment → Key → Option Key → Plan
plan_file_at t view who dir name what now number None = plan_new who dir name what now number
plan_file_at t view who dir name what now number (Some existing) = plan_existing t view dir existing what

-- an existing file may be cut by who may write it or owns it
abbrev pub may_cut : Identity → Option Inode → Bool
may_cut who None = true
may_cut who (Some i) = may_write who i || is_owner who i

-- CREATE (3.3.8) with attributes; a file that is there may stand where the creation is not guarded
abbrev pub plan_file : Tree → View → Identity → List ℕ → List ℕ → Bool → SetWhat → Moment → Key → Plan
plan_file t view who handle name guarded what now number = plan_about (object_of t view handle) (tail.Cache no_cache_data) (λ dir.
    let existing = entry t dir.number name in
    plan_unless (directory_checks who dir ++ name_checks name
    ++ invalid_times what ∷ too_large what.size
    ∷ (is_dot name || is_dot_dot name, status.Exist)
    ∷ (is_some existing && (guarded || not (is_file (inode_under t existing))), status.Exist)
    ∷ (is_some existing && is_some what.size && not (may_cut who (inode_under t existing)), status.Acces) ∷ [])
    (tail.Cache (cache_data t t view dir.number))
    (plan_file_at t view who dir name what now number existing))

-- CREATE under a verifier is not supported, and no check follows that one
abbrev pub plan_create : Tree → View → Identity → List ℕ → List ℕ → How → Moment → Key → Plan
plan_create t view who handle name (Unchecked what) now number = plan_file t view who handle name false what now number
plan_create t view who handle name (Guarded what) now number = plan_file t view who handle name true what now number
plan_create t view who handle name (Exclusive verifier) now number = plan_about (object_of t view handle) (tail.Cache no_cache_data) (λ dir.
    plan_unless (directory_checks who dir ++ name_checks name ++ (true, status.NotSupp) ∷ []) (tail.Cache (cache_data t t view dir.number))
    (Nothing reply.Nothing))

-- ---- attributes and contents

-- the caller owns the object but is not the superuser
abbrev pub is_plain_owner : Identity → Inode → Bool
is_plain_owner who i = is_owner who i && not (who.uid == 0)

-- an owner gives an object to nobody else, and to groups of his own
abbrev pub may_give : Identity → SetWhat → Bool
may_give who what = option_map_or (λ uid. uid == who.uid) what.uid true && option_map_or (λ gid. is_in_group who gid) what.gid true

-- what SETATTR sets
abbrev pub asked_change : Moment → SetWhat → Change
asked_change now what = record {
  mode = option_map permission_bits what.mode;
  uid = what.uid;
  gid = what.gid;
  size = what.size;
  atime = given_time now what.atime;
  mtime = given_time now what.mtime;
}

-- in this order
abbrev pub set_attribute_checks : Identity → Object → SetWhat → Option Moment → List Check
set_attribute_checks who o what guard =
    invalid_times what
    ∷ (
      option_map_or (λ m. not (m.sec == o.inode.attributes.ctime.sec && m.nsec == o.inode.attributes.ctime.nsec)) guard false,
      status.NotSync,
    )
    ∷ (
      (is_some what.mode || is_some what.uid || is_some what.gid || is_client_time what.atime || is_client_time what.mtime)
          && not (who.uid == 0 || is_owner who o.inode),
      status.Perm,
    )
    ∷ (is_plain_owner who o.inode && not (may_give who what), status.Perm)
    ∷ (is_some what.size && not (file_kind o.inode.kind), status.Inval)
    ∷ (is_some what.size && not (may_write who o.inode || is_owner who o.inode), status.Acces)
    ∷ too_large what.size
    ∷ ((is_server_time what.atime || is_server_time what.mtime) && not (may_write who o.inode || is_owner who o.inode), status.Acces) ∷ []

-- SETATTR (3.3.2): it makes its record also where nothing is given, which sets the ctime
abbrev pub plan_attributes : Tree → View → Identity → List ℕ → SetWhat → Option Moment → Moment → Plan
plan_attributes t view who handle what guard now = plan_about (object_of t view handle) (tail.Cache no_cache_data) (λ o.
    plan_unless (set_attribute_checks who o what guard) (tail.Cache (cache_data t t view o.number))
    (Operations (op.SetAttrs o.number (asked_change now what) ∷ [])))

-- of the bytes of a write the first 8,192 are taken
abbrev pub taken_part : List ℕ → List ℕ
taken_part bytes = take 8192 bytes

-- WRITE (3.3.7): the end of what is taken is looked at also where there are no bytes
abbrev pub plan_write : Tree → View → Identity → List ℕ → ℕ → ℕ → List ℕ → Plan
plan_write t view who handle offset count bytes = plan_about (object_of t view handle) (tail.Cache no_cache_data) (λ o.
    plan_unless ((not (file_kind o.inode.kind), status.Inval)
    ∷ (not (may_write who o.inode || is_owner who o.inode), status.Acces)
    ∷ (not (count == length bytes), status.Inval)
    ∷ (nat_lt longest_file (offset + length (taken_part bytes)), status.FBig) ∷ [])
    (tail.Cache (cache_data t t view o.number))
    (if length bytes == 0 then Nothing (reply.Written (cache_data t t view o.number) 0)
    else Operations (op.Write o.number offset (taken_part bytes) ∷ [])))

-- ---- names that go, move or are added

-- REMOVE (3.3.12)
abbrev pub plan_remove : Tree → View → Identity → List ℕ → List ℕ → Plan
plan_remove t view who handle name = plan_about (object_of t view handle) (tail.Cache no_cache_data) (λ dir.
    let target = entry t dir.number name in
    plan_unless (directory_checks who dir ++ name_checks name
    ++ (is_dot name || is_dot_dot name, status.Inval) ∷ (not (is_some target), status.NoEnt)
    ∷ (is_directory (inode_under t target), status.IsDir) ∷ [])
    (tail.Cache (cache_data t t view dir.number))
    (Operations (op.Unlink dir.number name ∷ [])))

-- RMDIR (3.3.13)
abbrev pub plan_remove_directory : Tree → View → Identity → List ℕ → List ℕ → Plan
plan_remove_directory t view who handle name = plan_about (object_of t view handle) (tail.Cache no_cache_data) (λ dir.
    let target = entry t dir.number name in
    plan_unless (directory_checks who dir ++ name_checks name
    ++ (is_dot name, status.Inval) ∷ (is_dot_dot name, status.Exist) ∷ (not (is_some target), status.NoEnt)
    ∷ (not (is_directory (inode_under t target)), status.NotDir) ∷ (not (is_empty_under t target), status.NotEmpty) ∷ [])
    (tail.Cache (cache_data t t view dir.number))
    (Operations (op.Unlink dir.number name ∷ [])))

-- both names lead to one inode
abbrev pub same_target : Option Key → Option Key → Bool
same_target None q = false
same_target (Some k) None = false
same_target (Some k) (Some l) = same_key k l

abbrev pub is_inside_moved : Tree → Key → Option Key → Bool
is_inside_moved t dir None = false
is_inside_moved t dir (Some moved) = is_inside t dir moved

-- the checks on what moves and what it replaces
abbrev pub move_checks : Tree → Key → Option Key → Option Key → List Check
move_checks t to_dir moved replaced =
    (is_some replaced && not (same_bool (is_directory (inode_under t moved)) (is_directory (inode_under t replaced))), status.Exist)
    ∷ (is_directory (inode_under t replaced) && not (is_empty_under t replaced), status.Exist)
    ∷ (is_inside_moved t to_dir moved, status.Inval) ∷ []

-- a rename onto another name of the same inode does nothing
abbrev pub plan_rename_between : Tree → View → Identity → Object → List ℕ → Object → List ℕ → Plan
plan_rename_between t view who dir name to_dir to_name =
    let moved = entry t dir.number name in
    let replaced = entry t to_dir.number to_name in
    let both = tail.TwoCaches (cache_data t t view dir.number) (cache_data t t view to_dir.number) in
    plan_unless ((not (directory_kind dir.inode.kind) || not (directory_kind to_dir.inode.kind), status.NotDir)
    ∷ (not (may_change who dir) || not (may_change who to_dir), status.Acces) ∷ []
    ++ name_checks name ++ name_checks to_name
    ++ (is_dot name || is_dot_dot name || is_dot to_name || is_dot_dot to_name, status.Inval)
    ∷ (not (is_some moved), status.NoEnt) ∷ []) both
    (if same_target moved replaced then Nothing (reply.Renamed (cache_data t t view dir.number) (cache_data t t view to_dir.number))
    else plan_unless (move_checks t to_dir.number moved replaced) both (Operations (op.Rename dir.number name to_dir.number to_name ∷ [])))

-- what is said of an object in a refusal: nothing, where its handle failed its checks
abbrev pub cache_of : Tree → View → Result Object NfsStatus → Wcc
cache_of t view (Ok o) = cache_data t t view o.number
cache_of t view (Err fault) = no_cache_data

abbrev pub attributes_of : Tree → View → Result Object NfsStatus → Option Fattr
attributes_of t view (Ok o) = Some (attributes t view o)
attributes_of t view (Err fault) = None

-- RENAME (3.3.14): each part of a refusal goes by its own handle
abbrev pub plan_rename : Tree → View → Identity → List ℕ → List ℕ → List ℕ → List ℕ → Plan
plan_rename t view who handle name to_handle to_name =
    let from = object_of t view handle in
    let to = object_of t view to_handle in
    let both = tail.TwoCaches (cache_of t view from) (cache_of t view to) in
    plan_about from both (λ dir. plan_about to both (λ to_dir. plan_rename_between t view who dir name to_dir to_name))

-- LINK (3.3.15): a file has at most 1,000 names
abbrev pub plan_link : Tree → View → Identity → List ℕ → List ℕ → List ℕ → Plan
plan_link t view who file_handle handle name =
    let source = object_of t view file_handle in
    let place = object_of t view handle in
    let both = tail.AttributesAndCache (attributes_of t view source) (cache_of t view place) in
    plan_about source both (λ file. plan_about place both (λ dir.
    plan_unless ((directory_kind file.inode.kind, status.Inval) ∷ directory_checks who dir ++ name_checks name
    ++ taken t dir name ∷ (nat_le 1000 (name_count t file.number), status.MLink) ∷ []) both
    (Operations (op.Link dir.number name file.number ∷ []))))

-- what the call is to do on this tree, where the caller's next record has this number
abbrev pub plan : Tree → View → Identity → Args → Moment → PubKey → ℕ → Plan
plan t view who (call.MkDir dir name what) now own seq = plan_directory t view who dir name what now (inode_number own seq)
plan t view who (call.RmDir dir name) now own seq = plan_remove_directory t view who dir name
plan t view who (call.SetAttr object what guard) now own seq = plan_attributes t view who object what guard now
plan t view who (call.Write file offset count stable bytes) now own seq = plan_write t view who file offset count bytes
plan t view who (call.Create dir name how) now own seq = plan_create t view who dir name how now (inode_number own seq)
plan t view who (call.SymLink dir name what text) now own seq = plan_symbolic_link t view who dir name what text now (inode_number own seq)
plan t view who (call.Remove dir name) now own seq = plan_remove t view who dir name
plan t view who (call.Rename dir name to_dir to_name) now own seq = plan_rename t view who dir name to_dir to_name
plan t view who (call.Link file dir name) now own seq = plan_link t view who file dir name
-- the reading procedures and MOUNT plan nothing, and are answered elsewhere
plan t view who call.Null now own seq = Nothing reply.Nothing
plan t view who (call.GetAttr object) now own seq = Nothing reply.Nothing
plan t view who (call.Lookup dir name) now own seq = Nothing reply.Nothing
plan t view who (call.Access object bits) now own seq = Nothing reply.Nothing
plan t view who (call.ReadLink link) now own seq = Nothing reply.Nothing
plan t view who (call.Read file offset count) now own seq = Nothing reply.Nothing
plan t view who (call.MkNod dir name node) now own seq = Nothing reply.Nothing
plan t view who (call.ReadDir dir cookie verifier count) now own seq = Nothing reply.Nothing
plan t view who (call.ReadDirPlus dir cookie verifier dircount maxcount) now own seq = Nothing reply.Nothing
plan t view who (call.FsStat object) now own seq = Nothing reply.Nothing
plan t view who (call.FsInfo object) now own seq = Nothing reply.Nothing
plan t view who (call.PathConf object) now own seq = Nothing reply.Nothing
plan t view who (call.Commit file offset count) now own seq = Nothing reply.Nothing
plan t view who call.MountNull now own seq = Nothing reply.Nothing
plan t view who (call.Mnt path) now own seq = Nothing reply.Nothing
plan t view who call.Dump now own seq = Nothing reply.Nothing
plan t view who (call.Umnt path) now own seq = Nothing reply.Nothing
plan t view who call.UmntAll now own seq = Nothing reply.Nothing
plan t view who call.Export now own seq = Nothing reply.Nothing

-- ---- the answer once the operations stand

-- the number of the inode that the first operation makes or sets
abbrev pub made_number : List Op → Option Key
made_number (op.Inode number kind mode uid gid target ∷ ops) = Some number
made_number (op.SetAttrs number change ∷ ops) = Some number
made_number _ = None

-- the new object, or the file that was there, in its directory
abbrev pub made : Tree → Tree → View → Result Object NfsStatus → Option Key → Reply
made before after view (Ok dir) (Some number) =
    reply.Made (handle_of view number) (attributes_at after view number) (cache_data before after view dir.number)
made before after view _ _ = reply.Nothing

-- an answer about the object of a handle, which stood before the records
abbrev pub standing : Result Object NfsStatus → (Key → Reply) → Reply
standing (Ok o) answer = answer o.number
standing (Err fault) answer = reply.Nothing

-- the reply to the call whose operations stand, of the trees before and after them
abbrev pub finish : Tree → Tree → View → Identity → Args → List Op → Reply
finish before after view who (call.SetAttr object what guard) ops =
    standing (object_of before view object) (λ o. reply.Changed (cache_data before after view o))
finish before after view who (call.Write file offset count stable bytes) ops =
    standing (object_of before view file) (λ o. reply.Written (cache_data before after view o) (length (taken_part bytes)))
finish before after view who (call.Create dir name how) ops = made before after view (object_of before view dir) (made_number ops)
finish before after view who (call.MkDir dir name what) ops = made before after view (object_of before view dir) (made_number ops)
finish before after view who (call.SymLink dir name what text) ops = made before after view (object_of before view dir) (made_number ops)
finish before after view who (call.Remove dir name) ops =
    standing (object_of before view dir) (λ d. reply.Changed (cache_data before after view d))
finish before after view who (call.RmDir dir name) ops =
    standing (object_of before view dir) (λ d. reply.Changed (cache_data before after view d))
finish before after view who (call.Rename dir name to_dir to_name) ops =
    standing (object_of before view dir)
    (λ d. standing (object_of before view to_dir)
    (λ e. reply.Renamed (cache_data before after view d) (cache_data before after view e)))
finish before after view who (call.Link file dir name) ops =
    standing (object_of before view file)
    (λ f. standing (object_of before view dir) (λ d. reply.Linked (attributes_at after view f) (cache_data before after view d)))
-- the reading procedures and MOUNT plan no operations
finish before after view who call.Null ops = reply.Nothing
finish before after view who (call.GetAttr object) ops = reply.Nothing
finish before after view who (call.Lookup dir name) ops = reply.Nothing
finish before after view who (call.Access object bits) ops = reply.Nothing
finish before after view who (call.ReadLink link) ops = reply.Nothing
finish before after view who (call.Read file offset count) ops = reply.Nothing
finish before after view who (call.MkNod dir name node) ops = reply.Nothing
finish before after view who (call.ReadDir dir cookie verifier count) ops = reply.Nothing
finish before after view who (call.ReadDirPlus dir cookie verifier dircount maxcount) ops = reply.Nothing
finish before after view who (call.FsStat object) ops = reply.Nothing
finish before after view who (call.FsInfo object) ops = reply.Nothing
finish before after view who (call.PathConf object) ops = reply.Nothing
finish before after view who (call.Commit file offset count) ops = reply.Nothing
finish before after view who call.MountNull ops = reply.Nothing
finish before after view who (call.Mnt path) ops = reply.Nothing
finish before after view who call.Dump ops = reply.Nothing
finish before after view who (call.Umnt path) ops = reply.Nothing
finish before after view who call.UmntAll ops = reply.Nothing
finish before after view who call.Export ops = reply.Nothing
