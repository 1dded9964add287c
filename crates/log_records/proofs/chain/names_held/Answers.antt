use Rattle.log_model.specs.Vector.{stamp_at}
use Rattle.log_records.specs.Records.{record_of}
use Rattle.log_records.proofs.ChainTests.{names_by, none_named}
use Rattle.log_records.proofs.chain.names_held.Goals as goal

pub returns-in-Some : goal.returns-in-Some
returns-in-Some c = names_by c.args.log.now (stamp_at c.args.held.now c.args.log.now) c.get.result c.in-Some.entry (record_of c.args.first.now) c.get.ensures c.in-Some.is c.is_same.ensures

pub returns-in-None : goal.returns-in-None
returns-in-None c = none_named c.args.log.now (stamp_at c.args.held.now c.args.log.now) c.get.result (record_of c.args.first.now) c.get.ensures c.in-None.is
