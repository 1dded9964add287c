use Rattle.log_records.proofs.Operations.{link_read}
use Rattle.log_records.proofs.body.read_link.Goals as goal

pub returns : goal.returns
returns c = link_read c.read_key-dir.ensures c.opaque-name.ensures c.read_key-ino.ensures c.in-Ok.ensures
