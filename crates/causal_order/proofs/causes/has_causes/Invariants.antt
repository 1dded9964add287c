use Rattle.std.proofs.Common.{take}
use Rattle.std.specs.List.{All}
use Rattle.version_vectors.specs.Entries.{stamped}
use Rattle.log_records.specs.Records.{record_of}
use Rattle.causal_order.specs.Over.{IsMet}
use Rattle.causal_order.specs.Kept.{known_of}
use Rattle.causal_order.proofs.causes.has_causes.Given as goal

-- those that were passed are met
abbrev pub invariant-entries : goal.invariant-entries
invariant-entries l = All (λ e. IsMet l.base.view.now l.base.front.now (known_of l.base l.taken) (record_of l.record) (stamped e)) (take l.i l.entry-items)
