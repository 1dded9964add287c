use Rattle.std.proofs.Common.{◌≡◌, ◌≤◌, ◌+◌, ◌-◌, length, take, vec_len}
use Rattle.std.specs.Vec.{vec_capacity}
use Rattle.log_records.proofs.records.Records.copy.Given as goal

-- the copies so far, and there is room for those that are left
abbrev pub invariant-loop-held : goal.invariant-loop-held
invariant-loop-held l = record {
  made : l.records.items ≡ take l.held-index l.self;
  room : vec_len l.records + (length l.self - l.held-index) ≤ vec_capacity l.records;
}
