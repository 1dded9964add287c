-- File handles, attributes and permissions of objects (RFC 1813, section 2.5).
use Rattle.std.specs.Prelude.{ℕ, ◌*◌, ◌/◌, ◌%◌, min, Bool, ◌||◌, ◌&&◌, not, List, [], ◌∷◌, ◌++◌, length, take, drop, Option, Some, None}
use Rattle.std.specs.Prelude.{option_map, ◌==◌, if◌then◌else◌, Result, Ok, Err}
use Rattle.std.specs.List.{list_any}
use Rattle.std.specs.Option.{option_map_or}
use Rattle.std.specs.Int.{w64, from_be_bytes}
use Rattle.ivy_base.specs.declared.key.Key.{Key}
use Rattle.tree_model.specs.Tree.{Tree, Inode, inode_at, is_live, link_count, is_directory}
use Rattle.log_model.specs.View.{View, view_name}
use Rattle.wire_model.specs.Rpc.{Identity}
use Rattle.nfs_model.specs.declared.replies.NfsStatus.{NfsStatus}
use Rattle.nfs_model.specs.declared.replies.NfsStatus.TheVariants.{BadHandle, Stale}
use Rattle.nfs_model.specs.declared.replies.Fattr.{Fattr}
use Rattle.nfs_model.specs.declared.replies.Wcc.{Wcc}
use Rattle.nfs_model.specs.declared.replies.WccBefore.{WccBefore}
use Rattle.nfs_model.specs.Checks.{same_bytes}

-- an inode with its number
pub record Object : Type 0 where
  pub number : Key
  pub inode : Inode

-- "IVY1", which a handle begins with
abbrev pub handle_tag : List ℕ
handle_tag = 73 ∷ 86 ∷ 89 ∷ 49 ∷ []

-- the tag, the view's name and the inode's number
abbrev pub handle_of : View → Key → List ℕ
handle_of view number = handle_tag ++ (view_name view).0 ++ number.0

-- the inode of that number, where it is live
abbrev pub live_object : Tree → Key → Result Object NfsStatus
live_object t number =
    if is_live t number
    then option_map_or (λ i. Ok (record { number = number; inode = i })) (inode_at t number) (Err Stale)
    else Err Stale

-- the object of a handle: another length or tag is a bad handle, and another view or an object that is not live is stale
abbrev pub object_of : Tree → View → List ℕ → Result Object NfsStatus
object_of t view handle =
    if not (length handle == 44 && same_bytes (take 4 handle) handle_tag) then Err BadHandle
    else if not (same_bytes (take 20 (drop 4 handle)) (view_name view).0) then Err Stale
    else live_object t (record { 0 = drop 24 handle })

-- ---- attributes

-- a directory counts as 4,096 bytes, a file as its length, and a symbolic link as that of its text
abbrev pub size_of : Inode → ℕ
size_of i = if is_directory (Some i) then 4096 else length i.body

-- the number that the first eight bytes of a key make
abbrev pub leading_number : Key → ℕ
leading_number k = from_be_bytes w64 (take 8 k.0)

-- the attributes; the number of links is at most that of a word
abbrev pub attributes : Tree → View → Object → Fattr
attributes t view o = record {
  kind = o.inode.kind;
  mode = o.inode.attributes.mode;
  nlink = min (link_count t o.number) 4294967295;
  uid = o.inode.attributes.uid;
  gid = o.inode.attributes.gid;
  size = size_of o.inode;
  used = size_of o.inode;
  fsid = leading_number (view_name view);
  fileid = leading_number o.number;
  atime = o.inode.attributes.atime;
  mtime = o.inode.attributes.mtime;
  ctime = o.inode.attributes.ctime;
}

abbrev pub attributes_at : Tree → View → Key → Option Fattr
attributes_at t view number = option_map (λ i. attributes t view (record { number = number; inode = i })) (inode_at t number)

-- what is said of an inode before an operation
abbrev pub before_at : Tree → Key → Option WccBefore
before_at t number = option_map (λ i. record { size = size_of i; mtime = i.attributes.mtime; ctime = i.attributes.ctime })
    (inode_at t number)

-- an object before and after the call's own records
abbrev pub cache_data : Tree → Tree → View → Key → Wcc
cache_data before after view number = record { before = before_at before number; after = attributes_at after view number }

-- what is said where a handle fails its checks
abbrev pub no_cache_data : Wcc
no_cache_data = record { before = None; after = None }

-- ---- permission

abbrev pub is_owner : Identity → Inode → Bool
is_owner who i = who.uid == i.attributes.uid

abbrev pub is_in_group : Identity → ℕ → Bool
is_in_group who gid = who.gid == gid || list_any (λ g. g == gid) who.groups

-- where the class's three bits begin: the owner's, the group's or the others'
abbrev pub class_unit : Identity → Inode → ℕ
class_unit who i = if is_owner who i then 64 else if is_in_group who i.attributes.gid then 8 else 1

-- a right is 4 to read, 2 to write, 1 to search; the superuser has all
abbrev pub is_granted : ℕ → Identity → Inode → Bool
is_granted right who i = who.uid == 0 || i.attributes.mode / (right * class_unit who i) % 2 == 1

abbrev pub may_read : Identity → Inode → Bool
may_read = is_granted 4

abbrev pub may_write : Identity → Inode → Bool
may_write = is_granted 2

abbrev pub may_search : Identity → Inode → Bool
may_search = is_granted 1
