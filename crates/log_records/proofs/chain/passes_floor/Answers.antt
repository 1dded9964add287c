use Rattle.log_model.specs.Vector.{stamp_at}
use Rattle.log_records.specs.Records.{records_of}
use Rattle.log_records.proofs.ChainTests.{passes_below, passes_through_it, passes_nothing}
use Rattle.log_records.proofs.chain.passes_floor.Goals as goal

pub returns-then-entry-reached : goal.returns-then-entry-reached
returns-then-entry-reached c =
    passes_below c.args.log.now (stamp_at c.args.floor.now c.args.log.now) c.get.result c.in-Some.entry c.args.reached (records_of c.args.chain.now) c.get.ensures c.in-Some.is c.if-entry-reached.true

pub returns-else-entry-reached : goal.returns-else-entry-reached
returns-else-entry-reached c =
    passes_through_it c.args.log.now (stamp_at c.args.floor.now c.args.log.now) c.get.result c.in-Some.entry c.args.reached (records_of c.args.chain.now) c.get.ensures c.in-Some.is
    c.if-entry-reached.false c.has_record.ensures

pub returns-in-None : goal.returns-in-None
returns-in-None c = passes_nothing c.args.log.now (stamp_at c.args.floor.now c.args.log.now) c.get.result c.args.reached (records_of c.args.chain.now) c.get.ensures c.in-None.is
