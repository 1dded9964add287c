use Rattle.log_records.proofs.Operations.{change_read}
use Rattle.log_records.proofs.change.read_change.Goals as goal

pub returns : goal.returns
returns c = change_read c.read_optional_word-mode.ensures c.read_optional_word-uid.ensures c.read_optional_word-gid.ensures c.read_optional_size-size.ensures c.read_optional_moment-atime.ensures c.read_optional_moment-mtime.ensures
