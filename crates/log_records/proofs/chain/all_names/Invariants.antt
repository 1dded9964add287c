use Rattle.std.proofs.Common.{◌≡◌, ◌≤◌, ◌+◌, ◌-◌, length, take, vec_len}
use Rattle.std.specs.Vec.{vec_capacity}
use Rattle.log_records.specs.Kept.{names_of}
use Rattle.log_records.proofs.chain.all_names.Given as goal

-- the names so far, and there is room for those of the records that are left
abbrev pub invariant-loop-record : goal.invariant-loop-record
invariant-loop-record l = record {
  made : l.names.items ≡ names_of (take l.record-index l.chain);
  room : vec_len l.names + (length l.chain - l.record-index) ≤ vec_capacity l.names;
}
