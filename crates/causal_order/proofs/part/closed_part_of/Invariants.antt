use Rattle.std.proofs.Common.{map}
use Rattle.log_records.specs.Records.{records_of}
use Rattle.causal_order.specs.Available.{IsAvailable}
use Rattle.causal_order.specs.Kept.{IsGoing, left_in}
use Rattle.causal_order.proofs.part.closed_part_of.Given as goal

-- what was taken is the largest part of what was seen
abbrev pub invariant-records : goal.invariant-records
invariant-records l = IsGoing l.base (IsAvailable l.base.view.now l.base.front.now (records_of l.base.held.now) (map (λ c. records_of c.records) l.fn.chains.items)) l.logs l.taken.items

abbrev pub decreases-records : goal.decreases-records
decreases-records l = left_in l.logs
