-- Chains as a batch keeps them, and as the definitions have them.
use Rattle.std.specs.Prelude.{List, map}
use Rattle.ivy_base.specs.declared.key.Key.{Key}
use Rattle.log_model.specs.Vector.{Stamp}
use Rattle.log_model.specs.Record.{Record}
use Rattle.log_model.specs.Heads.{stamp}
use Rattle.log_records.specs.declared.record.Record as kept
use Rattle.log_records.specs.declared.batch.Chain.{Chain}
use Rattle.log_records.specs.Records.{record_of, records_of}

abbrev pub chain_of : Chain → Stamp × List Record
chain_of c = (stamp c.head.seq c.head.name, records_of c.records)

abbrev pub chains_of : List Chain → List (Stamp × List Record)
chains_of cs = map chain_of cs

-- the names of the records' blocks
abbrev pub names_of : List kept.Record → List Key
names_of rs = map (λ r. (record_of r).name) rs
