use Rattle.std.proofs.Common.{ℕ, ◌<◌, ◌≤◌, get_or}
use Rattle.log_model.specs.Rank.{full_vector}
use Rattle.log_model.specs.Vector.{seq_of}
use Rattle.log_records.specs.Records.{record_of}
use Rattle.conflict_list.specs.declared.logs.Log.{Log}
use Rattle.conflict_list.specs.Tables.{At}
use Rattle.conflict_list.proofs.late.reaches.Given as goal

abbrev pub invariant-logs : goal.invariant-logs
invariant-logs l = (k : ℕ) (log : Log) → k < l.lane → At l.logs k log → get_or l.newest k 0 ≤ seq_of (full_vector (record_of l.one)) log.key
