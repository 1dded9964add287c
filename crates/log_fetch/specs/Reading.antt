-- What a walk learns from a block.
use Rattle.std.specs.Prelude.{◌≡◌, ℕ, List}
use Rattle.ivy_base.specs.declared.key.PubKey.{PubKey}
use Rattle.log_model.specs.Record.{Record}
use Rattle.log_model.specs.Spelling.{IsRecordOf}
use Rattle.log_model.specs.Chain.{HasMadeNumber}
use Rattle.log_records.specs.Records.{record_of}
use Rattle.log_fetch.specs.declared.reading.Reading.{Reading}
use Rattle.log_fetch.specs.declared.reading.Reading.TheVariants as reading

abbrev pub Says : PubKey → List ℕ → Reading → Type 0
Says owner bytes (reading.Good r) = IsRecordOf owner bytes (record_of r)
Says owner bytes (reading.Misnumbered prev) =
    (r : Record) × IsRecordOf owner bytes r × (r.prev ≡ prev) × (HasMadeNumber r.owner r.seq r.op → ⊥)
Says owner bytes reading.Garbled = (r : Record) → IsRecordOf owner bytes r → ⊥
