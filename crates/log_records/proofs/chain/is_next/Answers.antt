use Rattle.log_records.specs.Records.{record_of}
use Rattle.log_model.specs.Vector.{stamp_at}
use Rattle.log_records.proofs.Fitting.{next_by}
use Rattle.log_records.proofs.chain.is_next.Goals as goal

pub returns : goal.returns
returns c = next_by (record_of c.args.first.now) (stamp_at c.args.held.now c.args.log.now) c.seq_of.result c.requires c.seq_of.ensures
