use Rattle.std.proofs.Common.{◌≡◌, take}
use Rattle.log_model.specs.Rank.{front}
use Rattle.log_records.specs.Records.{records_of}
use Rattle.replay_engine.proofs.sets.front.Given as goal

abbrev pub invariant-records : goal.invariant-records
invariant-records l = l.front ≡ front (records_of (take l.record-index l.records))
