use Rattle.std.proofs.Common.{◌≡◌, ◌++◌, drop}
use Rattle.log_records.specs.Records.{records_of}
use Rattle.script_participants.specs.RecordLines.{lines_of}
use Rattle.script_participants.proofs.participants.Participants.put_records.Given as goal

-- what stands there, and the lines of the records that are left, are all
abbrev pub invariant-records : goal.invariant-records
invariant-records l = l.text.items ++ lines_of l.self (records_of (drop l.record-index l.records)) ≡ l.initial.text.items ++ lines_of l.self (records_of l.records)
