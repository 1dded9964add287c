use Rattle.std.proofs.Common.{◌≡◌, map, take}
use Rattle.tree_model.specs.Apply.{apply_all}
use Rattle.log_model.specs.Replay.{effect}
use Rattle.log_records.specs.Records.{records_of}
use Rattle.replay_engine.proofs.sets.apply_records.Given as goal

abbrev pub invariant-records : goal.invariant-records
invariant-records l = l.tree ≡ apply_all l.initial.tree (map effect (records_of (take l.record-index l.records)))
