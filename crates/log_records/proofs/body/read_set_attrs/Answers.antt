use Rattle.log_records.proofs.Operations.{set_read}
use Rattle.log_records.proofs.body.read_set_attrs.Goals as goal

pub returns : goal.returns
returns c = set_read c.read_key-ino.ensures c.read_change-change.ensures
