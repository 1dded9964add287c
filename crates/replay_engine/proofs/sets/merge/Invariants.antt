use Rattle.std.proofs.Common.{◌≡◌, ◌+◌, ◌++◌, ◌≤◌, vec_len}
use Rattle.std.specs.Prelude.{reverse}
use Rattle.std.specs.Vec.{vec_capacity}
use Rattle.log_records.specs.Records.{records_of}
use Rattle.replay_engine.specs.Rows.{IsRow, union}
use Rattle.replay_engine.proofs.sets.merge.Given as goal

abbrev pub invariant-records : goal.invariant-records
invariant-records l = record {
  so_far : union (records_of l.held.items) (records_of l.new.items) ++ reverse (records_of l.merged.items) ≡ union (records_of l.initial.held.items) (records_of l.initial.new.items);
  held : IsRow (records_of l.held.items);
  new : IsRow (records_of l.new.items);
  room : vec_len l.merged + (vec_len l.held + vec_len l.new) ≤ vec_capacity l.merged;
}

abbrev pub decreases-records : goal.decreases-records
decreases-records l = vec_len l.held + vec_len l.new
