use Rattle.std.proofs.Common.{◌≡◌, map, take}
use Rattle.std.specs.List.{All}
use Rattle.log_records.specs.Records.{records_of}
use Rattle.causal_order.specs.Started.{IsHeldLog}
use Rattle.causal_order.proofs.start.held_logs.Given as goal

-- the logs of those that were passed
abbrev pub invariant-members : goal.invariant-members
invariant-members l = record {
  owners : map (λ x. x.owner) l.logs.items ≡ take l.owner-index l.members;
  held : All (λ x. IsHeldLog l.base.front.now (records_of l.base.held.now) x.owner x) l.logs.items;
}
