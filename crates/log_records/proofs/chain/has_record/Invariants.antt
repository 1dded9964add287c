use Rattle.std.proofs.Common.{◌≡◌, ℕ, ◌<◌}
use Rattle.log_model.specs.Record.{Record}
use Rattle.log_model.specs.Rank.{own_entry}
use Rattle.log_model.specs.Heads.{stamp}
use Rattle.log_records.specs.Records.{records_of}
use Rattle.log_records.proofs.Walks.{HasAt}
use Rattle.log_records.proofs.chain.has_record.Given as goal

abbrev pub invariant-loop-i : goal.invariant-loop-i
invariant-loop-i l = (k : ℕ) → k < l.i → (x : Record) → HasAt (records_of l.chain) k x → (own_entry x).1 ≡ stamp l.entry.seq l.entry.name → ⊥
