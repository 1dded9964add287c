-- Which replies have a spelling that is read back as it was, and which procedure's replies they are (RFC 1813, sections 3.3 and 5.2).
use Rattle.std.specs.Prelude.{◌≡◌, ℕ, ◌<◌, ◌^◌, List, length, IfSome, IsSomeAnd, None, ⊤}
use Rattle.std.specs.List.{AllByRecursion}
use Rattle.wire_model.specs.Xdr.{IsWordMoment}
use Rattle.nfs_model.specs.declared.arguments.Args.{Args}
use Rattle.nfs_model.specs.declared.arguments.Args.TheVariants as call
use Rattle.nfs_model.specs.declared.replies.Fattr.{Fattr}
use Rattle.nfs_model.specs.declared.replies.Wcc.{Wcc}
use Rattle.nfs_model.specs.declared.replies.WccBefore.{WccBefore}
use Rattle.nfs_model.specs.declared.replies.Listed.{Listed}
use Rattle.nfs_model.specs.declared.replies.Tail.{Tail}
use Rattle.nfs_model.specs.declared.replies.Tail.TheVariants as tails
use Rattle.nfs_model.specs.declared.replies.Reply.{Reply}
use Rattle.nfs_model.specs.declared.replies.Reply.TheVariants as reply
use Rattle.nfs_model.specs.Arguments.{IsHandle, IsVerifier}

-- ---- bounds

pub record IsFattr (a : Fattr) : Type 0 where
  pub mode : a.mode < 2 ^ 32
  pub nlink : a.nlink < 2 ^ 32
  pub uid : a.uid < 2 ^ 32
  pub gid : a.gid < 2 ^ 32
  pub size : a.size < 2 ^ 64
  pub used : a.used < 2 ^ 64
  pub fsid : a.fsid < 2 ^ 64
  pub fileid : a.fileid < 2 ^ 64
  pub atime : IsWordMoment a.atime
  pub mtime : IsWordMoment a.mtime
  pub ctime : IsWordMoment a.ctime

pub record IsBefore (b : WccBefore) : Type 0 where
  pub size : b.size < 2 ^ 64
  pub mtime : IsWordMoment b.mtime
  pub ctime : IsWordMoment b.ctime

pub record IsWcc (w : Wcc) : Type 0 where
  pub before : IfSome w.before IsBefore
  pub after : IfSome w.after IsFattr

abbrev pub IsTail : Tail → Type 0
IsTail tails.Empty = ⊤
IsTail (tails.Attributes a) = IfSome a IsFattr
IsTail (tails.Cache w) = IsWcc w
IsTail (tails.TwoCaches v w) = IsWcc v × IsWcc w
IsTail (tails.AttributesAndCache a w) = IfSome a IsFattr × IsWcc w

-- bytes whose count is a word
abbrev pub IsText : List ℕ → Type 0
IsText bytes = length bytes < 2 ^ 32

-- an entry without attributes and file handle
pub record IsPlainEntry (e : Listed) : Type 0 where
  pub fileid : e.fileid < 2 ^ 64
  pub name : IsText e.name
  pub cookie : e.cookie < 2 ^ 64
  pub no_attributes : e.attributes ≡ None
  pub no_handle : e.handle ≡ None

-- an entry with its file handle, and with attributes where they are known
pub record IsPlusEntry (e : Listed) : Type 0 where
  pub fileid : e.fileid < 2 ^ 64
  pub name : IsText e.name
  pub cookie : e.cookie < 2 ^ 64
  pub attributes : IfSome e.attributes IsFattr
  pub handle : IsSomeAnd e.handle IsHandle

-- each number and each text is within its bound, and the entries of a page are all of its form
abbrev pub ReplyFits : Reply → Type 0
ReplyFits reply.Nothing = ⊤
ReplyFits (reply.Refused s t) = IsTail t
ReplyFits (reply.Attributes a) = IsFattr a
ReplyFits (reply.Changed w) = IsWcc w
ReplyFits (reply.Found handle object dir) = IsHandle handle × IfSome object IsFattr × IfSome dir IsFattr
ReplyFits (reply.Allowed object bits) = IfSome object IsFattr × (bits < 2 ^ 32)
ReplyFits (reply.Text link text) = IfSome link IsFattr × IsText text
ReplyFits (reply.Bytes file count eof bytes) = IfSome file IsFattr × (count < 2 ^ 32) × IsText bytes
ReplyFits (reply.Written w count) = IsWcc w × (count < 2 ^ 32)
ReplyFits (reply.Made handle object w) = IsHandle handle × IfSome object IsFattr × IsWcc w
ReplyFits (reply.Renamed from to) = IsWcc from × IsWcc to
ReplyFits (reply.Linked file w) = IfSome file IsFattr × IsWcc w
ReplyFits (reply.Committed w) = IsWcc w
ReplyFits (reply.Directory dir verifier page eof) = IfSome dir IsFattr × IsVerifier verifier × AllByRecursion IsPlainEntry page
ReplyFits (reply.DirectoryPlus dir verifier page eof) = IfSome dir IsFattr × IsVerifier verifier × AllByRecursion IsPlusEntry page
ReplyFits (reply.Space object) = IfSome object IsFattr
ReplyFits (reply.Limits object) = IfSome object IsFattr
ReplyFits (reply.Paths object) = IfSome object IsFattr
ReplyFits (reply.Mounted handle) = IsHandle handle
ReplyFits reply.NoSuchPath = ⊤
ReplyFits reply.NoMounts = ⊤
ReplyFits reply.Exports = ⊤

-- ---- forms

-- what stands after a status other than 0, by a number of its form; 5 is no form, where there is no such status
abbrev pub tail_form : Tail → ℕ
tail_form tails.Empty = 0
tail_form (tails.Attributes a) = 1
tail_form (tails.Cache w) = 2
tail_form (tails.TwoCaches v w) = 3
tail_form (tails.AttributesAndCache a w) = 4

abbrev pub tail_form_of : Args → ℕ
tail_form_of call.Null = 5
tail_form_of (call.GetAttr object) = 0
tail_form_of (call.SetAttr object what guard) = 2
tail_form_of (call.Lookup dir name) = 1
tail_form_of (call.Access object bits) = 1
tail_form_of (call.ReadLink link) = 1
tail_form_of (call.Read file offset count) = 1
tail_form_of (call.Write file offset count stable bytes) = 2
tail_form_of (call.Create dir name how) = 2
tail_form_of (call.MkDir dir name what) = 2
tail_form_of (call.SymLink dir name what text) = 2
tail_form_of (call.MkNod dir name node) = 2
tail_form_of (call.Remove dir name) = 2
tail_form_of (call.RmDir dir name) = 2
tail_form_of (call.Rename dir name to_dir to_name) = 3
tail_form_of (call.Link file dir name) = 4
tail_form_of (call.ReadDir dir cookie verifier count) = 1
tail_form_of (call.ReadDirPlus dir cookie verifier dircount maxcount) = 1
tail_form_of (call.FsStat object) = 1
tail_form_of (call.FsInfo object) = 1
tail_form_of (call.PathConf object) = 1
tail_form_of (call.Commit file offset count) = 2
tail_form_of call.MountNull = 5
tail_form_of (call.Mnt path) = 5
tail_form_of call.Dump = 5
tail_form_of (call.Umnt path) = 5
tail_form_of call.UmntAll = 5
tail_form_of call.Export = 5

-- a result of status 0, by the first procedure that gives one of its form; those of MOUNT are counted from 100
abbrev pub result_form : Reply → ℕ
result_form reply.Nothing = 0
result_form (reply.Attributes a) = 1
result_form (reply.Changed w) = 2
result_form (reply.Found handle object dir) = 3
result_form (reply.Allowed object bits) = 4
result_form (reply.Text link text) = 5
result_form (reply.Bytes file count eof bytes) = 6
result_form (reply.Written w count) = 7
result_form (reply.Made handle object w) = 8
result_form (reply.Renamed from to) = 14
result_form (reply.Linked file w) = 15
result_form (reply.Directory dir verifier page eof) = 16
result_form (reply.DirectoryPlus dir verifier page eof) = 17
result_form (reply.Space object) = 18
result_form (reply.Limits object) = 19
result_form (reply.Paths object) = 20
result_form (reply.Committed w) = 21
result_form (reply.Mounted handle) = 101
result_form reply.NoSuchPath = 101
result_form reply.NoMounts = 102
result_form reply.Exports = 105
-- a refusal has none
result_form (reply.Refused s t) = 200

-- MKNOD has no such result
abbrev pub result_form_of : Args → ℕ
result_form_of call.Null = 0
result_form_of (call.GetAttr object) = 1
result_form_of (call.SetAttr object what guard) = 2
result_form_of (call.Lookup dir name) = 3
result_form_of (call.Access object bits) = 4
result_form_of (call.ReadLink link) = 5
result_form_of (call.Read file offset count) = 6
result_form_of (call.Write file offset count stable bytes) = 7
result_form_of (call.Create dir name how) = 8
result_form_of (call.MkDir dir name what) = 8
result_form_of (call.SymLink dir name what text) = 8
result_form_of (call.MkNod dir name node) = 11
result_form_of (call.Remove dir name) = 2
result_form_of (call.RmDir dir name) = 2
result_form_of (call.Rename dir name to_dir to_name) = 14
result_form_of (call.Link file dir name) = 15
result_form_of (call.ReadDir dir cookie verifier count) = 16
result_form_of (call.ReadDirPlus dir cookie verifier dircount maxcount) = 17
result_form_of (call.FsStat object) = 18
result_form_of (call.FsInfo object) = 19
result_form_of (call.PathConf object) = 20
result_form_of (call.Commit file offset count) = 21
result_form_of call.MountNull = 0
result_form_of (call.Mnt path) = 101
result_form_of call.Dump = 102
result_form_of (call.Umnt path) = 0
result_form_of call.UmntAll = 0
result_form_of call.Export = 105

-- the reply has a form of the procedure's
abbrev pub IsReplyTo : Args → Reply → Type 0
IsReplyTo args (reply.Refused s t) = tail_form t ≡ tail_form_of args
IsReplyTo args r = result_form r ≡ result_form_of args

-- a reply of the procedure's form, within its bounds
pub record IsFittingReply (args : Args) (r : Reply) : Type 0 where
  pub form : IsReplyTo args r
  pub fits : ReplyFits r
