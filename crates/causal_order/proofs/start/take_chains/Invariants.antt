use Rattle.std.proofs.Common.{◌≡◌, ◌++◌, map}
use Rattle.std.specs.List.{All}
use Rattle.log_records.specs.Records.{records_of}
use Rattle.causal_order.specs.Started.{HasQueued}
use Rattle.causal_order.proofs.start.take_chains.Given as goal

-- the chains so far were taken in
abbrev pub invariant-chains : goal.invariant-chains
invariant-chains l = record {
  whole : l.fn.chains.items ≡ l.yielded ++ l.chain-iterator.rest.items;
  owners : map (λ x. x.owner) l.logs ≡ map (λ x. x.owner) l.initial.logs;
  queued : All (HasQueued l.base.view.now l.base.front.now (records_of l.base.held.now) (map (λ c. records_of c.records) l.yielded)) l.logs;
}
