use Rattle.std.proofs.Common.{take}
use Rattle.log_model.specs.Closed.{log_of}
use Rattle.log_records.specs.Records.{records_of}
use Rattle.causal_order.specs.Kept.{AreAt}
use Rattle.causal_order.proofs.start.places_of.Given as goal

-- the places of those that were passed
abbrev pub invariant-held : goal.invariant-held
invariant-held l = AreAt (records_of l.held) l.places.items (log_of l.owner (records_of (take l.i l.held)))
