-- The bytes of a result, from its status on (RFC 1813, sections 2.5, 2.6, 3.3 and 5.2).
use Rattle.std.specs.Prelude.{ℕ, List, [], ◌∷◌, ◌++◌, Some, ◌^◌}
use Rattle.std.specs.List.{flat_map}
use Rattle.nfs_model.specs.declared.replies.Listed.{Listed}
use Rattle.log_model.specs.Spelling.{kind_number}
use Rattle.wire_model.specs.Xdr.{word, double_word, boolean, opaque, optional, moment}
use Rattle.nfs_model.specs.declared.replies.NfsStatus.{NfsStatus}
use Rattle.nfs_model.specs.declared.replies.NfsStatus.TheVariants as status
use Rattle.nfs_model.specs.declared.replies.Fattr.{Fattr}
use Rattle.nfs_model.specs.declared.replies.Wcc.{Wcc}
use Rattle.nfs_model.specs.declared.replies.WccBefore.{WccBefore}
use Rattle.nfs_model.specs.declared.replies.Tail.{Tail}
use Rattle.nfs_model.specs.declared.replies.Tail.TheVariants as tails
use Rattle.nfs_model.specs.declared.replies.Reply.{Reply}
use Rattle.nfs_model.specs.declared.replies.Reply.TheVariants as reply
use Rattle.tree_model.specs.Tree.{longest_file}

-- nfsstat3 (2.6)
abbrev pub status_number : NfsStatus → ℕ
status_number status.Perm = 1
status_number status.NoEnt = 2
status_number status.Io = 5
status_number status.Acces = 13
status_number status.Exist = 17
status_number status.NotDir = 20
status_number status.IsDir = 21
status_number status.Inval = 22
status_number status.FBig = 27
status_number status.RoFs = 30
status_number status.MLink = 31
status_number status.NameTooLong = 63
status_number status.NotEmpty = 66
status_number status.Stale = 70
status_number status.BadHandle = 10001
status_number status.NotSync = 10002
status_number status.BadCookie = 10003
status_number status.NotSupp = 10004
status_number status.TooSmall = 10005
status_number status.ServerFault = 10006
status_number status.Jukebox = 10008

-- fattr3 (2.5): 84 bytes; the two numbers of a device are 0
abbrev pub fattr : Fattr → List ℕ
fattr a =
    word (kind_number a.kind) ++ word a.mode ++ word a.nlink ++ word a.uid ++ word a.gid ++ double_word a.size ++ double_word a.used
    ++ word 0 ++ word 0 ++ double_word a.fsid ++ double_word a.fileid ++ moment a.atime ++ moment a.mtime ++ moment a.ctime

-- wcc_attr (2.5)
abbrev pub before : WccBefore → List ℕ
before b = double_word b.size ++ moment b.mtime ++ moment b.ctime

-- wcc_data (2.5)
abbrev pub wcc : Wcc → List ℕ
wcc w = optional before w.before ++ optional fattr w.after

-- what stands after a status other than 0
abbrev pub tail : Tail → List ℕ
tail tails.Empty = []
tail (tails.Attributes a) = optional fattr a
tail (tails.Cache w) = wcc w
tail (tails.TwoCaches v w) = wcc v ++ wcc w
tail (tails.AttributesAndCache a w) = optional fattr a ++ wcc w

-- the verifier of what was written (writeverf3): "IVYVERF1"
abbrev pub write_verifier : List ℕ
write_verifier = 73 ∷ 86 ∷ 89 ∷ 86 ∷ 69 ∷ 82 ∷ 70 ∷ 49 ∷ []

-- entry3 (3.3.16) with the flag that says that there is one
abbrev pub listed_entry : Listed → List ℕ
listed_entry e = word 1 ++ double_word e.fileid ++ opaque e.name ++ double_word e.cookie

-- entryplus3 (3.3.17): with attributes and file handle
abbrev pub listed_entry_plus : Listed → List ℕ
listed_entry_plus e = listed_entry e ++ optional fattr e.attributes ++ optional opaque e.handle

-- items in a row, without their count
abbrev pub many : {A : Type 0} → (A → List ℕ) → List A → List ℕ
many item xs = flat_map item xs

-- the most bytes of a result: a page of a directory, and the status before it
abbrev pub longest_result : ℕ
longest_result = 32772

-- a status, and what stands after it; FILE_SYNC is 2, and MNT gives the one flavour AUTH_SYS, 1
abbrev pub result : Reply → List ℕ
result reply.Nothing = []
result (reply.Refused s t) = word (status_number s) ++ tail t
result (reply.Attributes a) = word 0 ++ fattr a
result (reply.Changed w) = word 0 ++ wcc w
result (reply.Found handle object dir) = word 0 ++ opaque handle ++ optional fattr object ++ optional fattr dir
result (reply.Allowed object bits) = word 0 ++ optional fattr object ++ word bits
result (reply.Text link text) = word 0 ++ optional fattr link ++ opaque text
result (reply.Bytes file count eof bytes) = word 0 ++ optional fattr file ++ word count ++ boolean eof ++ opaque bytes
result (reply.Written w count) = word 0 ++ wcc w ++ word count ++ word 2 ++ write_verifier
result (reply.Made handle object w) = word 0 ++ optional opaque (Some handle) ++ optional fattr object ++ wcc w
result (reply.Renamed from to) = word 0 ++ wcc from ++ wcc to
result (reply.Linked file w) = word 0 ++ optional fattr file ++ wcc w
result (reply.Committed w) = word 0 ++ wcc w ++ write_verifier
result (reply.Directory dir verifier page eof) =
    word 0 ++ optional fattr dir ++ verifier ++ flat_map listed_entry page ++ word 0 ++ boolean eof
result (reply.DirectoryPlus dir verifier page eof) =
    word 0 ++ optional fattr dir ++ verifier ++ flat_map listed_entry_plus page ++ word 0 ++ boolean eof
result (reply.Space object) = word 0 ++ optional fattr object ++ many double_word (2 ^ 40 ∷ 2 ^ 40 ∷ 2 ^ 40 ∷ 2 ^ 32 ∷ 2 ^ 32 ∷ 2 ^ 32 ∷ [])
    ++ word 0
result (reply.Limits object) = word 0 ++ optional fattr object ++ many word (8192 ∷ 8192 ∷ 512 ∷ 8192 ∷ 8192 ∷ 512 ∷ 8192 ∷ [])
    ++ double_word longest_file ++ many word (0 ∷ 1 ∷ 27 ∷ [])
result (reply.Paths object) = word 0 ++ optional fattr object ++ many word (1000 ∷ 255 ∷ 1 ∷ 1 ∷ 0 ∷ 1 ∷ [])
result (reply.Mounted handle) = word 0 ++ opaque handle ++ many word (1 ∷ 1 ∷ [])
result reply.NoSuchPath = word 2
result reply.NoMounts = word 0
result reply.Exports = word 1 ++ opaque (47 ∷ []) ++ word 0 ++ word 0
