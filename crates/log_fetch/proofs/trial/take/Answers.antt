use Rattle.std.proofs.Common.{sym}
use Rattle.log_records.specs.Records.{records_of}
use Rattle.log_fetch.proofs.Trying.{one_owner, some_records}
use Rattle.log_fetch.proofs.trial.take.Goals as goal

pub add_chain-requires-clause-owner : goal.add_chain-requires-clause-owner
add_chain-requires-clause-owner c =
    let owned = rw c.in-Some.is at c.requires.owned in
    one_owner c.args.owner.now (records_of c.in-Some.chain.items) owned (some_records c.in-Some.chain.items _ (sym c.in-Some.chain.ok.0) c.if-is_empty.ensures)
