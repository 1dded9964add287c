use Rattle.std.proofs.Common.{◌≡◌, length}
use Rattle.log_records.specs.Records.{records_of}
use Rattle.causal_order.specs.Available.{above}
use Rattle.causal_order.proofs.Starts.{IsOnward}
use Rattle.causal_order.proofs.start.news.Given as goal

-- none of the greater numbers was dropped
abbrev pub invariant-old : goal.invariant-old
invariant-old l = record {
  same : above l.held_to (records_of l.fn.records.items) ≡ above l.held_to (records_of l.queue.items);
  onward : IsOnward l.base.view.now (records_of l.queue.items);
}

abbrev pub decreases-old : goal.decreases-old
decreases-old l = length l.queue.items
