-- A log as its reader accepts it under a view: records that are linked by name from the first on.
use Rattle.std.specs.Prelude.{◌≡◌, ℕ, ◌+◌, ◌≤◌, List, [], ◌∷◌, IsTrue}
use Rattle.std.specs.List.{AllByRecursion}
use Rattle.ivy_base.specs.declared.key.Key.{Key}
use Rattle.ivy_base.specs.declared.key.PubKey.{PubKey}
use Rattle.ivy_base.specs.declared.format.Format.TheVariants.{One}
use Rattle.ivy_base.specs.declared.operation.Moment.{Moment}
use Rattle.ivy_base.specs.declared.operation.Op.{Op}
use Rattle.ivy_base.specs.declared.operation.Op.TheVariants as op
use Rattle.ivy_base.specs.Naming.{inode_number}
use Rattle.log_model.specs.View.{View, is_named}
use Rattle.log_model.specs.Vector.{Dominates}
use Rattle.log_model.specs.Record.{Record}
use Rattle.log_model.specs.Spelling.{new_record, no_name, most_records, HasSpelling, OperationFits, IsEndOp}
use Rattle.log_model.specs.Rank.{full_vector}

-- the first record of a log, which its owner makes with it
abbrev pub opening : PubKey → Moment → Record
opening own now = new_record (record { owner = own; format = One; vector = []; moment = now }) 1 no_name op.End

-- an inode's number is the one that its record makes
abbrev pub HasMadeNumber : PubKey → ℕ → Op → Type 0
HasMadeNumber owner seq (op.Inode number kind mode uid gid target) = number ≡ inode_number owner seq
HasMadeNumber owner seq _ = Unit {0}

-- the operation may stand in the owner's record of that number, which isn't the log's first
pub record MayBeWritten (owner : PubKey) (seq : ℕ) (op : Op) : Type 0 where
  pub fits : OperationFits op
  pub no_end : IsEndOp op → ⊥
  pub number : HasMadeNumber owner seq op
  pub few : seq ≤ most_records

-- the operations may stand in the owner's records from that number on
abbrev pub AllMayBeWritten : PubKey → ℕ → List Op → Type 0
AllMayBeWritten owner seq [] = Unit {0}
AllMayBeWritten owner seq (op ∷ ops) = MayBeWritten owner seq op × AllMayBeWritten owner (seq + 1) ops

-- the record is one of the owner's that has a spelling, names only logs of the view, and its inode has the number that it makes
pub record IsGood (view : View) (owner : PubKey) (r : Record) : Type 0 where
  pub owned : r.owner ≡ owner
  pub spelled : HasSpelling r
  pub number : HasMadeNumber owner r.seq r.op
  pub named : AllByRecursion (λ e. IsTrue (is_named view e.0)) r.vector

-- the record opens its log, and cites nothing
pub record IsFirst (r : Record) : Type 0 where
  pub seq : r.seq ≡ 1
  pub ends : r.op ≡ op.End
  pub prev : r.prev ≡ no_name
  pub vector : r.vector ≡ []

-- r is numbered next after p, names it, and knows all that p does
pub record Follows (p r : Record) : Type 0 where
  pub seq : r.seq ≡ p.seq + 1
  pub prev : r.prev ≡ p.name
  pub grows : Dominates (full_vector r) (full_vector p)

-- after p, each record is good and follows the one before it
abbrev pub GoesOn : View → PubKey → Record → List Record → Type 0
GoesOn view owner p [] = Unit {0}
GoesOn view owner p (r ∷ rs) = IsGood view owner r × Follows p r × GoesOn view owner r rs

-- the beginning of a log, from its opening record on
abbrev pub IsChain : View → PubKey → List Record → Type 0
IsChain view owner [] = Unit {0}
IsChain view owner (r ∷ rs) = IsGood view owner r × IsFirst r × GoesOn view owner r rs

-- the owner's records from that number on, the first of which names that one, and each the one before it, whatever logs their vectors name
abbrev pub LinkedFrom : PubKey → ℕ → Key → List Record → Type 0
LinkedFrom owner seq prev [] = Unit {0}
LinkedFrom owner seq prev (r ∷ rs) =
    (r.owner ≡ owner) × HasSpelling r × (r.seq ≡ seq) × (r.prev ≡ prev) × LinkedFrom owner (seq + 1) r.name rs
