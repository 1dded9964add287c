use Rattle.log_records.specs.Records.{record_of}
use Rattle.turn_taking.proofs.Above.{over_is}
use Rattle.turn_taking.proofs.tide.is_above.Goals as goal

pub returns-then-seq_of-record : goal.returns-then-seq_of-record
returns-then-seq_of-record c = over_is c.args.base.now (record_of c.args.record.now) c.args.log.now c.entries.result.now c.seq_of.result c.knows_all.result c.requires.log c.requires.others c.entries.ensures.entries c.seq_of.ensures c.if-seq_of-record.true
    c.knows_all.ensures
