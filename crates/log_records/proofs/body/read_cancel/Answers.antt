use Rattle.log_records.proofs.Operations.{cancel_read}
use Rattle.log_records.proofs.body.read_cancel.Goals as goal

pub returns : goal.returns
returns c = cancel_read c.u32-seq.ensures
