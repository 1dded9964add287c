use Rattle.log_records.specs.Records.{record_of}
use Rattle.log_records.proofs.KeptChains.{follows_by}
use Rattle.log_records.proofs.chain.follows.Goals as goal

pub returns-then-is_linked : goal.returns-then-is_linked
returns-then-is_linked c =
    follows_by (record_of c.args.before.now) (record_of c.args.record.now) c.dominates.result c.requires.before c.requires.spelled c.requires.owner (c.is_linked.ensures.0 c.if-is_linked.true) c.dominates.ensures
