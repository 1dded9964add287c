use Rattle.log_records.proofs.ReadParts.{key_read}
use Rattle.log_records.proofs.parts.read_key.Goals as goal

pub returns : goal.returns
returns c = key_read c.bytes.ensures
