use Rattle.log_records.proofs.Operations.{rename_read}
use Rattle.log_records.proofs.body.read_rename.Goals as goal

pub returns : goal.returns
returns c = rename_read c.read_key-dir.ensures c.opaque-name.ensures c.read_key-to_dir.ensures c.opaque-to_name.ensures c.in-Ok.ensures c.in-Ok-copy_of.ensures
