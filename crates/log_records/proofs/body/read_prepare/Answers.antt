use Rattle.log_records.proofs.Operations.{prepare_read}
use Rattle.log_records.proofs.body.read_prepare.Goals as goal

pub returns : goal.returns
returns c = prepare_read c.read_key-dir.ensures c.opaque-name.ensures c.eight-verf.ensures c.in-Ok.ensures
