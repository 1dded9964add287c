-- The bytes of a record's block, and which records have a spelling.
use Rattle.std.specs.Prelude.{◌≡◌, ℕ, ◌+◌, ◌<◌, ◌≤◌, ◌^◌, List, [], ◌∷◌, ◌++◌, length, replicate, None, IfSome, IsTrue, nat_lt, ◌↔◌}
use Rattle.std.specs.List.{AllByRecursion, list_all}
use Rattle.std.specs.FinMap.Entries.{is_sorted}
use Rattle.ivy_base.specs.declared.key.Key.{Key}
use Rattle.ivy_base.specs.declared.key.PubKey.{PubKey}
use Rattle.ivy_base.specs.declared.format.Format.{Format}
use Rattle.ivy_base.specs.declared.format.Format.TheVariants.{One, Two}
use Rattle.ivy_base.specs.declared.operation.Kind.{Kind}
use Rattle.ivy_base.specs.declared.operation.Kind.TheVariants.{Reg, Dir, Lnk}
use Rattle.ivy_base.specs.declared.operation.Moment.{Moment}
use Rattle.ivy_base.specs.declared.operation.Change.{Change}
use Rattle.ivy_base.specs.declared.operation.Op.{Op}
use Rattle.ivy_base.specs.declared.operation.Op.TheVariants as op
use Rattle.ivy_base.specs.Naming.{name, key_cmp, head_key_of, IsFileName}
use Rattle.wire_model.specs.Xdr.{word, double_word, opaque, optional, array, moment}
use Rattle.log_model.specs.Vector.{Entry, Vector, Stamp, stamp_at}
use Rattle.log_model.specs.Record.{Record, Heading, heading_of}
use Rattle.log_model.specs.View.{most_cited}
use Rattle.tree_model.specs.Tree.{longest_file}

-- a kind as an inode's record has it (RFC 1813, section 2.5, ftype3)
abbrev pub kind_number : Kind → ℕ
kind_number Reg = 1
kind_number Dir = 2
kind_number Lnk = 5

-- which operation a record holds
abbrev pub record_kind : Op → ℕ
record_kind (op.Inode number kind mode uid gid target) = 1
record_kind (op.Write number offset bytes) = 2
record_kind (op.Link dir name number) = 3
record_kind (op.Unlink dir name) = 4
record_kind (op.Rename dir name to_dir to_name) = 5
record_kind (op.Prepare dir name verifier) = 6
record_kind (op.Cancel seq) = 7
record_kind (op.SetAttrs number change) = 8
record_kind op.End = 9

-- the operation's own part of the block
abbrev pub body : Op → List ℕ
body (op.Inode number kind mode uid gid target) = number.0 ++ word (kind_number kind) ++ word mode ++ word uid ++ word gid ++ opaque target
body (op.Write number offset bytes) = number.0 ++ double_word offset ++ opaque bytes
body (op.Link dir name number) = dir.0 ++ opaque name ++ number.0
body (op.Unlink dir name) = dir.0 ++ opaque name
body (op.Rename dir name to_dir to_name) = dir.0 ++ opaque name ++ to_dir.0 ++ opaque to_name
body (op.Prepare dir name verifier) = dir.0 ++ opaque name ++ verifier
body (op.Cancel seq) = word seq
body (op.SetAttrs number change) =
    number.0 ++ optional word change.mode ++ optional word change.uid ++ optional word change.gid
    ++ optional double_word change.size ++ optional moment change.atime ++ optional moment change.mtime
body op.End = []

abbrev pub vector_entry : Entry → List ℕ
vector_entry e = e.0.0 ++ word e.1.seq ++ e.1.name.0

-- the last byte of a tag: the format's digit
abbrev pub format_digit : Format → ℕ
format_digit One = 49
format_digit Two = 50

-- what each record's block begins with: "IVR1" or "IVR2"
abbrev pub record_tag : Format → List ℕ
record_tag format = 73 ∷ 86 ∷ 82 ∷ format_digit format ∷ []

-- the block of the record of that number after the one of that name: the tag, the parts that each record has, and the operation's own
abbrev pub block_of_record : Heading → ℕ → Key → Op → List ℕ
block_of_record h seq prev op =
    record_tag h.format ++ word (record_kind op) ++ (head_key_of h.owner).0 ++ prev.0 ++ word seq ++ moment h.moment
    ++ array vector_entry h.vector ++ body op

abbrev pub record_block : Record → List ℕ
record_block r = block_of_record (heading_of r) r.seq r.prev r.op

-- that record, under the name of its block
abbrev pub new_record : Heading → ℕ → Key → Op → Record
new_record h seq prev op = record {
  owner = h.owner;
  seq = seq;
  prev = prev;
  vector = h.vector;
  moment = h.moment;
  op = op;
  format = h.format;
  name = name (block_of_record h seq prev op);
}

-- ---- which records have a spelling

-- no block of a record has more bytes
abbrev pub longest_record : ℕ
longest_record = 12288

-- the greatest number of a record
abbrev pub most_records : ℕ
most_records = 1048576

-- in place of a name, where there is none
abbrev pub no_name : Key
no_name = record { 0 = replicate 20 0 }

-- so many bytes
pub record IsBlock (count : ℕ) (bytes : List ℕ) : Type 0 where
  pub size : length bytes ≡ count
  pub each : IsTrue (list_all (λ b. nat_lt b 256) bytes)

abbrev pub IsKey : Key → Type 0
IsKey k = IsBlock 20 k.0

pub record IsMoment (m : Moment) : Type 0 where
  pub sec : m.sec < 2 ^ 32
  pub nsec : m.nsec < 1000000000

-- 12 bits
abbrev pub IsMode : ℕ → Type 0
IsMode mode = mode ≤ 4095

-- a symbolic link has a text, and no other kind has one
abbrev pub IsTarget : Kind → List ℕ → Type 0
IsTarget Reg target = target ≡ []
IsTarget Dir target = target ≡ []
IsTarget Lnk target = (1 ≤ length target) × (length target ≤ 1024)

pub record IsChange (c : Change) : Type 0 where
  pub mode : IfSome c.mode IsMode
  pub uid : IfSome c.uid (λ n. n < 2 ^ 32)
  pub gid : IfSome c.gid (λ n. n < 2 ^ 32)
  pub size : IfSome c.size (λ n. n ≤ longest_file)
  pub atime : IfSome c.atime IsMoment
  pub mtime : IfSome c.mtime IsMoment

-- the operation's parts have their bounds
abbrev pub OperationFits : Op → Type 0
OperationFits (op.Inode number kind mode uid gid target) =
    IsKey number × IsMode mode × (uid < 2 ^ 32) × (gid < 2 ^ 32) × IsTarget kind target
OperationFits (op.Write number offset bytes) =
    IsKey number × (1 ≤ length bytes) × (length bytes ≤ 8192) × (offset + length bytes ≤ longest_file)
OperationFits (op.Link dir name number) = IsKey dir × IsFileName name × IsKey number
OperationFits (op.Unlink dir name) = IsKey dir × IsFileName name
OperationFits (op.Rename dir name to_dir to_name) = IsKey dir × IsFileName name × IsKey to_dir × IsFileName to_name
OperationFits (op.Prepare dir name verifier) = IsKey dir × IsFileName name × IsBlock 8 verifier
OperationFits (op.Cancel seq) = seq < 2 ^ 32
OperationFits (op.SetAttrs number change) = IsKey number × IsChange change
OperationFits op.End = Unit {0}

-- the operation is the one that opens a log
abbrev pub IsEndOp : Op → Type 0
IsEndOp op.End = Unit {0}
IsEndOp _ = ⊥

-- The record has a block that a reader takes, and its name. A log begins with End, which stands nowhere else, and its first record cites
-- nothing and has format 1; a vector's entries ascend by head key, none of them of the own log
pub record HasSpelling (r : Record) : Type 0 where
  pub some : 1 ≤ r.seq
  pub few : r.seq ≤ most_records
  pub prev : IsKey r.prev
  pub moment : IsMoment r.moment
  pub entries : AllByRecursion (λ e. IsKey e.0 × (1 ≤ e.1.seq) × (e.1.seq < 2 ^ 32) × IsKey e.1.name) r.vector
  pub in_order : IsTrue (is_sorted key_cmp r.vector)
  pub short : length r.vector ≤ most_cited
  pub of_others : stamp_at r.vector (head_key_of r.owner) ≡ None
  pub operation : OperationFits r.op
  pub ends_first : (r.seq ≡ 1) ↔ IsEndOp r.op
  pub first_alone : r.seq ≡ 1 → (r.prev ≡ no_name) × (r.vector ≡ [])
  pub first_plain : r.seq ≡ 1 → r.format ≡ One
  pub named : r.name ≡ name (record_block r)

-- the block is this record of the owner's
pub record IsRecordOf (owner : PubKey) (block : List ℕ) (r : Record) : Type 0 where
  pub owned : r.owner ≡ owner
  pub fits : HasSpelling r
  pub spelled : block ≡ record_block r

-- ---- heads

-- "IVH1"
abbrev pub head_tag : List ℕ
head_tag = 73 ∷ 86 ∷ 72 ∷ 49 ∷ []

-- what a head's signature signs: the tag, the public key, the number and the name of the log's newest record
abbrev pub head_message : PubKey → Stamp → List ℕ
head_message owner newest = head_tag ++ owner.0 ++ word newest.seq ++ newest.name.0

abbrev pub head_block : PubKey → Stamp → List ℕ → List ℕ
head_block owner newest signature = head_message owner newest ++ opaque signature

-- the block is a head of the owner's log with that signature
pub record IsHeadOf (owner : PubKey) (block : List ℕ) (newest : Stamp) (signature : List ℕ) : Type 0 where
  pub owner_is_key : IsBlock 60 owner.0
  pub some : 1 ≤ newest.seq
  pub few : newest.seq ≤ most_records
  pub name : IsKey newest.name
  pub short : length signature ≤ 16000
  pub spelled : block ≡ head_block owner newest signature
