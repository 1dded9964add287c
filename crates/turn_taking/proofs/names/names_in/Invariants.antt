use Rattle.std.proofs.Common.{◌≡◌, take, map}
use Rattle.log_records.specs.Records.{records_of}
use Rattle.turn_taking.proofs.names.names_in.Given as goal

-- the names of the records so far
abbrev pub invariant-records : goal.invariant-records
invariant-records l = l.names.items ≡ map (λ r. r.name) (take l.i (records_of l.chain.records))
