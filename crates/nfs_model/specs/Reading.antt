-- What a reading procedure answers (RFC 1813, section 3.3; which check comes first and which status it gives are this project's).
use Rattle.std.specs.Prelude.{ℕ, ◌+◌, min, Bool, true, false, ◌||◌, ◌&&◌, not, List, [], ◌∷◌, length, take, drop, Option, Some, None}
use Rattle.std.specs.Prelude.{is_none, unwrap_or, nat_le, if◌then◌else◌, bit_and}
use Rattle.ivy_base.specs.declared.key.Key.{Key}
use Rattle.ivy_base.specs.declared.operation.Kind.{Kind}
use Rattle.ivy_base.specs.declared.operation.Kind.TheVariants.{Reg, Dir, Lnk}
use Rattle.tree_model.specs.Tree.{Tree, Inode, inode_at, entry, parent, directory_kind, file_kind}
use Rattle.log_model.specs.View.{View}
use Rattle.wire_model.specs.Rpc.{Identity}
use Rattle.nfs_model.specs.declared.arguments.Args.{Args}
use Rattle.nfs_model.specs.declared.arguments.Args.TheVariants as call
use Rattle.nfs_model.specs.declared.replies.NfsStatus.TheVariants as status
use Rattle.nfs_model.specs.declared.replies.Tail.TheVariants as tail
use Rattle.nfs_model.specs.declared.replies.Reply.{Reply}
use Rattle.nfs_model.specs.declared.replies.Reply.TheVariants as reply
use Rattle.ivy_base.specs.Naming.{root_number}
use Rattle.nfs_model.specs.declared.replies.Fattr.{Fattr}
use Rattle.nfs_model.specs.Checks.{Check, too_long_name, invalid_name, is_dot, is_dot_dot, same_bytes}
use Rattle.nfs_model.specs.Pages.{read_directory, read_directory_plus}
use Rattle.nfs_model.specs.Answers.{about, unless}
use Rattle.nfs_model.specs.Objects.{Object, object_of, handle_of, attributes, may_read, may_write, may_search, is_owner, cache_data}
use Rattle.nfs_model.specs.Objects.{no_cache_data}

-- GETATTR (3.3.1)
abbrev pub get_attributes : Tree → View → List ℕ → Reply
get_attributes t view handle = about (object_of t view handle) tail.Empty (λ o. reply.Attributes (attributes t view o))

-- what a name in a directory leads to: itself, its parent, or the entry
abbrev pub target_of : Tree → Key → List ℕ → Option Key
target_of t dir name =
    if is_dot name then Some dir
    else if is_dot_dot name then Some (unwrap_or (parent t dir) dir)
    else entry t dir name

-- LOOKUP (3.3.3)
abbrev pub lookup_checks : Tree → Identity → Object → List ℕ → List Check
lookup_checks t who dir name =
    (not (directory_kind dir.inode.kind), status.NotDir)
    ∷ (not (may_search who dir.inode), status.Acces)
    ∷ too_long_name name ∷ invalid_name name
    ∷ (is_none (target_of t dir.number name), status.NoEnt) ∷ []

-- what is found under a number; a name whose inode is missing is stale
abbrev pub found_inode : Tree → View → Object → Key → Option Inode → Reply
found_inode t view dir number None = reply.Refused status.Stale (tail.Attributes (Some (attributes t view dir)))
found_inode t view dir number (Some i) =
    reply.Found (handle_of view number) (Some (attributes t view (record { number = number; inode = i }))) (Some (attributes t view dir))

abbrev pub found : Tree → View → Object → Option Key → Reply
found t view dir None = reply.Refused status.NoEnt (tail.Attributes (Some (attributes t view dir)))
found t view dir (Some number) = found_inode t view dir number (inode_at t number)

abbrev pub lookup : Tree → View → Identity → List ℕ → List ℕ → Reply
lookup t view who handle name = about (object_of t view handle) (tail.Attributes None) (λ dir.
    unless (lookup_checks t who dir name) (tail.Attributes (Some (attributes t view dir)))
    (found t view dir (target_of t dir.number name)))

-- the bits of ACCESS: read 1, look up 2, modify 4, extend 8, delete 16, execute 32
abbrev pub granted_bits : Identity → Inode → ℕ
granted_bits who i =
    (if may_read who i then 1 else 0)
    + (if may_search who i && directory_kind i.kind then 2 else 0)
    + (if may_write who i then 12 else 0)
    + (if may_write who i && directory_kind i.kind then 16 else 0)
    + (if may_search who i && not (directory_kind i.kind) then 32 else 0)

-- ACCESS (3.3.4): of the asked bits, those that are granted
abbrev pub access : Tree → View → Identity → List ℕ → ℕ → Reply
access t view who handle bits = about (object_of t view handle) (tail.Attributes None) (λ o.
    reply.Allowed (Some (attributes t view o)) (bit_and bits (granted_bits who o.inode)))

abbrev pub link_kind : Kind → Bool
link_kind Reg = false
link_kind Dir = false
link_kind Lnk = true

-- READLINK (3.3.5)
abbrev pub read_link : Tree → View → List ℕ → Reply
read_link t view handle = about (object_of t view handle) (tail.Attributes None) (λ o.
    unless ((not (link_kind o.inode.kind), status.Inval) ∷ []) (tail.Attributes (Some (attributes t view o)))
    (reply.Text (Some (attributes t view o)) o.inode.body))

-- what is read of a file from the offset on: at most 8,192 bytes
abbrev pub part : List ℕ → ℕ → ℕ → List ℕ
part bytes offset count = take (min count 8192) (drop offset bytes)

-- READ (3.3.6): by whom the mode lets read, and by the owner in any case
abbrev pub read : Tree → View → Identity → List ℕ → ℕ → ℕ → Reply
read t view who handle offset count = about (object_of t view handle) (tail.Attributes None) (λ o.
    unless ((not (file_kind o.inode.kind), status.Inval) ∷ (not (may_read who o.inode || is_owner who o.inode), status.Acces) ∷ [])
    (tail.Attributes (Some (attributes t view o)))
    (let bytes = part o.inode.body offset count in
    reply.Bytes (Some (attributes t view o)) (length bytes) (nat_le (length o.inode.body) (offset + length bytes)) bytes))

-- MKNOD (3.3.11): special nodes are not supported, and only the handle is looked at
abbrev pub make_node : Tree → View → List ℕ → Reply
make_node t view handle = about (object_of t view handle) (tail.Cache no_cache_data) (λ dir.
    reply.Refused status.NotSupp (tail.Cache (cache_data t t view dir.number)))

-- COMMIT (3.3.21): what was written is kept already
abbrev pub commit : Tree → View → List ℕ → Reply
commit t view handle = about (object_of t view handle) (tail.Cache no_cache_data) (λ o.
    unless ((not (file_kind o.inode.kind), status.Inval) ∷ []) (tail.Cache (cache_data t t view o.number))
    (reply.Committed (cache_data t t view o.number)))

-- FSSTAT, FSINFO and PATHCONF (3.3.18 to 3.3.20): the object's attributes, and numbers that are always the same
abbrev pub with_attributes : Tree → View → List ℕ → (Option Fattr → Reply) → Reply
with_attributes t view handle numbers = about (object_of t view handle) (tail.Attributes None) (λ o. numbers (Some (attributes t view o)))

-- what a reading procedure answers
abbrev pub answer : Tree → View → Identity → Args → Reply
answer t view who (call.GetAttr handle) = get_attributes t view handle
answer t view who (call.Lookup dir name) = lookup t view who dir name
answer t view who (call.Access handle bits) = access t view who handle bits
answer t view who (call.ReadLink handle) = read_link t view handle
answer t view who (call.Read handle offset count) = read t view who handle offset count
answer t view who (call.MkNod dir name node) = make_node t view dir
answer t view who (call.ReadDir dir cookie verifier count) = read_directory t view who dir cookie verifier count
answer t view who (call.ReadDirPlus dir cookie verifier dircount maxcount) =
    read_directory_plus t view who dir cookie verifier dircount maxcount
answer t view who (call.FsStat handle) = with_attributes t view handle reply.Space
answer t view who (call.FsInfo handle) = with_attributes t view handle reply.Limits
answer t view who (call.PathConf handle) = with_attributes t view handle reply.Paths
answer t view who (call.Commit file offset count) = commit t view file
-- NULL has no result; the changing procedures are planned, and MOUNT has answers of its own
answer t view who call.Null = reply.Nothing
answer t view who (call.SetAttr object what guard) = reply.Nothing
answer t view who (call.Write file offset count stable bytes) = reply.Nothing
answer t view who (call.Create dir name how) = reply.Nothing
answer t view who (call.MkDir dir name what) = reply.Nothing
answer t view who (call.SymLink dir name what text) = reply.Nothing
answer t view who (call.Remove dir name) = reply.Nothing
answer t view who (call.RmDir dir name) = reply.Nothing
answer t view who (call.Rename dir name to_dir to_name) = reply.Nothing
answer t view who (call.Link file dir name) = reply.Nothing
answer t view who call.MountNull = reply.Nothing
answer t view who (call.Mnt path) = reply.Nothing
answer t view who call.Dump = reply.Nothing
answer t view who (call.Umnt path) = reply.Nothing
answer t view who call.UmntAll = reply.Nothing
answer t view who call.Export = reply.Nothing

-- MOUNT (5.2), which looks at the view alone; NULL, UMNT and UMNTALL have no result
abbrev pub mount_answer : View → Args → Reply
mount_answer view (call.Mnt path) = if same_bytes path (47 ∷ []) then reply.Mounted (handle_of view root_number) else reply.NoSuchPath
mount_answer view call.Dump = reply.NoMounts
mount_answer view call.Export = reply.Exports
mount_answer view call.MountNull = reply.Nothing
mount_answer view (call.Umnt path) = reply.Nothing
mount_answer view call.UmntAll = reply.Nothing
-- and the procedures of NFS are answered above
mount_answer view _ = reply.Nothing
