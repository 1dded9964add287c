-- Records as they are kept, and when none is read.
use Rattle.std.specs.Prelude.{ℕ, ◌<◌, ◌≤◌, List, length, map}
use Rattle.ivy_base.specs.declared.key.PubKey.{PubKey}
use Rattle.log_model.specs.Record as log
use Rattle.log_model.specs.Spelling.{new_record, longest_record, IsRecordOf}
use Rattle.log_model.specs.Chain.{HasMadeNumber}
use Rattle.log_records.specs.declared.record.Record.{Record}
use Rattle.log_records.specs.declared.fault.RecordFault.{RecordFault}
use Rattle.log_records.specs.declared.fault.RecordFault.TheVariants.{Malformed, TooLong, BadNumber, Memory}

-- a record as the definitions have it: of these parts, under the name of its block
abbrev pub record_of : Record → log.Record
record_of r = new_record (record { owner = r.owner; format = r.format; vector = r.vector; moment = r.moment }) r.seq r.prev r.op

abbrev pub records_of : List Record → List log.Record
records_of rs = map record_of rs

-- the bytes are that record of the owner's, and if it makes an inode, then of the number that it makes
pub record IsRead (owner : PubKey) (bytes : List ℕ) (r : log.Record) : Type 0 where
  pub spelled : IsRecordOf owner bytes r
  pub number : HasMadeNumber owner r.seq r.op

-- why no record of the owner's was read
abbrev pub ReadFault : PubKey → List ℕ → RecordFault → Type 0
ReadFault owner bytes TooLong = longest_record < length bytes
ReadFault owner bytes Malformed = (length bytes ≤ longest_record) × ((r : log.Record) → IsRecordOf owner bytes r → ⊥)
ReadFault owner bytes BadNumber = (length bytes ≤ longest_record) × (r : log.Record) × IsRecordOf owner bytes r
    × (HasMadeNumber owner r.seq r.op → ⊥)
ReadFault owner bytes Memory = Unit {0}
