use Rattle.std.proofs.Common.{List, subst}
use Rattle.std.specs.Prelude.{IfOk}
use Rattle.log_model.specs.Record.{Record}
use Rattle.log_records.specs.Records.{records_of}
use Rattle.causal_order.specs.Available.{IsNewPart}
use Rattle.causal_order.proofs.Beginning.{are_fetched, are_named, chains_are, have_own_owners}
use Rattle.causal_order.proofs.part.closed_part.Goals as goal

pub closed_part_of-requires-clause-fetched : goal.closed_part_of-requires-clause-fetched
closed_part_of-requires-clause-fetched c = are_fetched c.args.view.now c.args.front.now (records_of c.args.held.now) c.into_chains.result.items c.args.batch.chains c.into_chains.ensures.chains c.requires.fetched

pub closed_part_of-requires-clause-named : goal.closed_part_of-requires-clause-named
closed_part_of-requires-clause-named c = are_named c.args.batch c.into_chains.result.items c.into_chains.ensures.legal c.into_chains.ensures.chains

pub closed_part_of-requires-clause-apart : goal.closed_part_of-requires-clause-apart
closed_part_of-requires-clause-apart c = have_own_owners c.args.batch c.into_chains.result.items c.into_chains.ensures.legal c.into_chains.ensures.chains

pub returns : goal.returns
returns c = subst (λ (chains : List (List Record)). IfOk c.closed_part_of.result (λ new. IsNewPart c.args.view.now c.args.front.now (records_of c.args.held.now) chains (records_of new.items)))
    (chains_are c.into_chains.result.items c.args.batch.chains c.into_chains.ensures.chains) c.closed_part_of.ensures
