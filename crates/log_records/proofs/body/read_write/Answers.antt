use Rattle.log_records.proofs.Operations.{write_read}
use Rattle.log_records.proofs.body.read_write.Goals as goal

pub returns : goal.returns
returns c = write_read c.read_key-ino.ensures c.u64-offset.ensures c.opaque-bytes.ensures c.in-Ok.ensures
