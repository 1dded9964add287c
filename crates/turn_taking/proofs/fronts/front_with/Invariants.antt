use Rattle.std.proofs.Common.{◌≡◌, take, map}
use Rattle.std.specs.Prelude.{fold}
use Rattle.log_model.specs.Rank.{full_vector}
use Rattle.log_model.specs.Vector.{join}
use Rattle.log_records.specs.Records.{records_of}
use Rattle.turn_taking.proofs.fronts.front_with.Given as goal

-- the front with the records so far
abbrev pub invariant-records : goal.invariant-records
invariant-records l = l.joined ≡ fold join l.front (map full_vector (records_of (take l.record-index l.records)))
