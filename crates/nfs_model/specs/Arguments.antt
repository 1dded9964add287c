-- The bytes of a procedure's arguments (RFC 1813, sections 3.3 and 5.2), and which arguments have a spelling.
use Rattle.std.specs.Prelude.{◌≡◌, ℕ, ◌<◌, ◌≤◌, ◌^◌, List, [], ◌++◌, length, Some, None, IfSome, ⊤, ◌⊎◌}
use Rattle.wire_model.specs.Xdr.{word, double_word, opaque, optional, moment, IsWordMoment}
use Rattle.nfs_model.specs.declared.arguments.Args.{Args}
use Rattle.nfs_model.specs.declared.arguments.Args.TheVariants as call
use Rattle.nfs_model.specs.declared.arguments.SetTime.{SetTime}
use Rattle.nfs_model.specs.declared.arguments.SetTime.TheVariants.{Keep, Server, Client}
use Rattle.nfs_model.specs.declared.arguments.SetWhat.{SetWhat}
use Rattle.nfs_model.specs.declared.arguments.How.{How}
use Rattle.nfs_model.specs.declared.arguments.How.TheVariants.{Unchecked, Guarded, Exclusive}
use Rattle.nfs_model.specs.declared.arguments.SpecialNode.{SpecialNode}
use Rattle.nfs_model.specs.declared.arguments.SpecialNode.TheVariants.{Plain, Device, Other}

-- ---- which procedure it is

abbrev pub nfs_program : ℕ
nfs_program = 100003

abbrev pub mount_program : ℕ
mount_program = 100005

abbrev pub program_of : Args → ℕ
program_of call.MountNull = mount_program
program_of (call.Mnt path) = mount_program
program_of call.Dump = mount_program
program_of (call.Umnt path) = mount_program
program_of call.UmntAll = mount_program
program_of call.Export = mount_program
program_of _ = nfs_program

abbrev pub procedure_of : Args → ℕ
procedure_of call.Null = 0
procedure_of (call.GetAttr object) = 1
procedure_of (call.SetAttr object what guard) = 2
procedure_of (call.Lookup dir name) = 3
procedure_of (call.Access object bits) = 4
procedure_of (call.ReadLink link) = 5
procedure_of (call.Read file offset count) = 6
procedure_of (call.Write file offset count stable bytes) = 7
procedure_of (call.Create dir name how) = 8
procedure_of (call.MkDir dir name what) = 9
procedure_of (call.SymLink dir name what text) = 10
procedure_of (call.MkNod dir name node) = 11
procedure_of (call.Remove dir name) = 12
procedure_of (call.RmDir dir name) = 13
procedure_of (call.Rename dir name to_dir to_name) = 14
procedure_of (call.Link file dir name) = 15
procedure_of (call.ReadDir dir cookie verifier count) = 16
procedure_of (call.ReadDirPlus dir cookie verifier dircount maxcount) = 17
procedure_of (call.FsStat object) = 18
procedure_of (call.FsInfo object) = 19
procedure_of (call.PathConf object) = 20
procedure_of (call.Commit file offset count) = 21
procedure_of call.MountNull = 0
procedure_of (call.Mnt path) = 1
procedure_of call.Dump = 2
procedure_of (call.Umnt path) = 3
procedure_of call.UmntAll = 4
procedure_of call.Export = 5

-- a mode to be set, and nothing else
abbrev pub only_mode : ℕ → SetWhat
only_mode m = record { mode = Some m; uid = None; gid = None; size = None; atime = Keep; mtime = Keep }

-- ---- spellings

-- set_atime and set_mtime (2.5)
abbrev pub set_time : SetTime → List ℕ
set_time Keep = word 0
set_time Server = word 1
set_time (Client m) = word 2 ++ moment m

-- sattr3 (2.5)
abbrev pub set_what : SetWhat → List ℕ
set_what s =
    optional word s.mode ++ optional word s.uid ++ optional word s.gid ++ optional double_word s.size
    ++ set_time s.atime ++ set_time s.mtime

-- createhow3 (3.3.8)
abbrev pub create_how : How → List ℕ
create_how (Unchecked s) = word 0 ++ set_what s
create_how (Guarded s) = word 1 ++ set_what s
create_how (Exclusive verifier) = word 2 ++ verifier

-- mknoddata3 (3.3.11): the type's number, and what is given with it
abbrev pub special_node : SpecialNode → List ℕ
special_node (Plain kind) = word kind
special_node (Device kind what major minor) = word kind ++ set_what what ++ word major ++ word minor
special_node (Other kind what) = word kind ++ set_what what

-- handles are opaque data, and names, texts and paths are strings
abbrev pub arguments : Args → List ℕ
arguments call.Null = []
arguments (call.GetAttr object) = opaque object
arguments (call.SetAttr object what guard) = opaque object ++ set_what what ++ optional moment guard
arguments (call.Lookup dir name) = opaque dir ++ opaque name
arguments (call.Access object bits) = opaque object ++ word bits
arguments (call.ReadLink link) = opaque link
arguments (call.Read file offset count) = opaque file ++ double_word offset ++ word count
arguments (call.Write file offset count stable bytes) = opaque file ++ double_word offset ++ word count ++ word stable ++ opaque bytes
arguments (call.Create dir name how) = opaque dir ++ opaque name ++ create_how how
arguments (call.MkDir dir name what) = opaque dir ++ opaque name ++ set_what what
arguments (call.SymLink dir name what text) = opaque dir ++ opaque name ++ set_what what ++ opaque text
arguments (call.MkNod dir name node) = opaque dir ++ opaque name ++ special_node node
arguments (call.Remove dir name) = opaque dir ++ opaque name
arguments (call.RmDir dir name) = opaque dir ++ opaque name
arguments (call.Rename dir name to_dir to_name) = opaque dir ++ opaque name ++ opaque to_dir ++ opaque to_name
arguments (call.Link file dir name) = opaque file ++ opaque dir ++ opaque name
arguments (call.ReadDir dir cookie verifier count) = opaque dir ++ double_word cookie ++ verifier ++ word count
arguments (call.ReadDirPlus dir cookie verifier dircount maxcount) =
    opaque dir ++ double_word cookie ++ verifier ++ word dircount ++ word maxcount
arguments (call.FsStat object) = opaque object
arguments (call.FsInfo object) = opaque object
arguments (call.PathConf object) = opaque object
arguments (call.Commit file offset count) = opaque file ++ double_word offset ++ word count
arguments call.MountNull = []
arguments (call.Mnt path) = opaque path
arguments call.Dump = []
arguments (call.Umnt path) = opaque path
arguments call.UmntAll = []
arguments call.Export = []

-- ---- bounds

-- a file handle (nfs_fh3) has at most 64 bytes
abbrev pub IsHandle : List ℕ → Type 0
IsHandle bytes = length bytes ≤ 64

-- a name or the text of a symbolic link is read up to 4,096 bytes
abbrev pub IsShortText : List ℕ → Type 0
IsShortText bytes = length bytes ≤ 4096

-- numbers are those of their words
abbrev pub IsTime : SetTime → Type 0
IsTime Keep = ⊤
IsTime Server = ⊤
IsTime (Client m) = IsWordMoment m

pub record IsSetWhat (s : SetWhat) : Type 0 where
  pub mode : IfSome s.mode (λ n. n < 2 ^ 32)
  pub uid : IfSome s.uid (λ n. n < 2 ^ 32)
  pub gid : IfSome s.gid (λ n. n < 2 ^ 32)
  pub size : IfSome s.size (λ n. n < 2 ^ 64)
  pub atime : IsTime s.atime
  pub mtime : IsTime s.mtime

-- eight bytes
abbrev pub IsVerifier : List ℕ → Type 0
IsVerifier bytes = length bytes ≡ 8

abbrev pub IsHow : How → Type 0
IsHow (Unchecked s) = IsSetWhat s
IsHow (Guarded s) = IsSetWhat s
IsHow (Exclusive verifier) = IsVerifier verifier

-- the types of special nodes (2.5, ftype3): a file, a directory or a symbolic link
abbrev pub IsPlainKind : ℕ → Type 0
IsPlainKind kind = (kind ≡ 1) ⊎ (kind ≡ 2) ⊎ (kind ≡ 5)

-- a block device or a character device
abbrev pub IsDeviceKind : ℕ → Type 0
IsDeviceKind kind = (kind ≡ 3) ⊎ (kind ≡ 4)

-- a socket or a named pipe
abbrev pub IsOtherKind : ℕ → Type 0
IsOtherKind kind = (kind ≡ 6) ⊎ (kind ≡ 7)

abbrev pub IsNode : SpecialNode → Type 0
IsNode (Plain kind) = IsPlainKind kind
IsNode (Device kind what major minor) = IsDeviceKind kind × IsSetWhat what × (major < 2 ^ 32) × (minor < 2 ^ 32)
IsNode (Other kind what) = IsOtherKind kind × IsSetWhat what

-- the arguments have a spelling: each handle, text and number is within its bound, and so it is read back as it was
abbrev pub ArgumentsFit : Args → Type 0
ArgumentsFit call.Null = ⊤
ArgumentsFit (call.GetAttr object) = IsHandle object
ArgumentsFit (call.SetAttr object what guard) = IsHandle object × IsSetWhat what × IfSome guard IsWordMoment
ArgumentsFit (call.Lookup dir name) = IsHandle dir × IsShortText name
ArgumentsFit (call.Access object bits) = IsHandle object × (bits < 2 ^ 32)
ArgumentsFit (call.ReadLink link) = IsHandle link
ArgumentsFit (call.Read file offset count) = IsHandle file × (offset < 2 ^ 64) × (count < 2 ^ 32)
ArgumentsFit (call.Write file offset count stable bytes) =
    IsHandle file × (offset < 2 ^ 64) × (count < 2 ^ 32) × (stable ≤ 2) × (length bytes < 2 ^ 32)
ArgumentsFit (call.Create dir name how) = IsHandle dir × IsShortText name × IsHow how
ArgumentsFit (call.MkDir dir name what) = IsHandle dir × IsShortText name × IsSetWhat what
ArgumentsFit (call.SymLink dir name what text) = IsHandle dir × IsShortText name × IsSetWhat what × IsShortText text
ArgumentsFit (call.MkNod dir name node) = IsHandle dir × IsShortText name × IsNode node
ArgumentsFit (call.Remove dir name) = IsHandle dir × IsShortText name
ArgumentsFit (call.RmDir dir name) = IsHandle dir × IsShortText name
ArgumentsFit (call.Rename dir name to_dir to_name) = IsHandle dir × IsShortText name × IsHandle to_dir × IsShortText to_name
ArgumentsFit (call.Link file dir name) = IsHandle file × IsHandle dir × IsShortText name
ArgumentsFit (call.ReadDir dir cookie verifier count) = IsHandle dir × (cookie < 2 ^ 64) × IsVerifier verifier × (count < 2 ^ 32)
ArgumentsFit (call.ReadDirPlus dir cookie verifier dircount maxcount) =
    IsHandle dir × (cookie < 2 ^ 64) × IsVerifier verifier × (dircount < 2 ^ 32) × (maxcount < 2 ^ 32)
ArgumentsFit (call.FsStat object) = IsHandle object
ArgumentsFit (call.FsInfo object) = IsHandle object
ArgumentsFit (call.PathConf object) = IsHandle object
ArgumentsFit (call.Commit file offset count) = IsHandle file × (offset < 2 ^ 64) × (count < 2 ^ 32)
ArgumentsFit call.MountNull = ⊤
ArgumentsFit (call.Mnt path) = length path ≤ 1024
ArgumentsFit call.Dump = ⊤
ArgumentsFit (call.Umnt path) = length path ≤ 1024
ArgumentsFit call.UmntAll = ⊤
ArgumentsFit call.Export = ⊤

-- the bytes are these arguments of the procedure
pub record AreArguments (program procedure : ℕ) (bytes : List ℕ) (args : Args) : Type 0 where
  pub program_is : program ≡ program_of args
  pub procedure_is : procedure ≡ procedure_of args
  pub fit : ArgumentsFit args
  pub spelled : bytes ≡ arguments args
