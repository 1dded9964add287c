use Rattle.log_records.proofs.Operations.{unlink_read}
use Rattle.log_records.proofs.body.read_unlink.Goals as goal

pub returns : goal.returns
returns c = unlink_read c.read_key-dir.ensures c.opaque-name.ensures c.in-Ok.ensures
