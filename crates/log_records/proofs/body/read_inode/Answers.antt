use Rattle.log_records.proofs.Operations.{inode_read}
use Rattle.log_records.proofs.body.read_inode.Goals as goal

pub returns : goal.returns
returns c = inode_read c.read_key-ino.ensures c.read_kind-kind.ensures c.u32-mode.ensures c.u32-uid.ensures c.u32-gid.ensures c.opaque-target.ensures c.in-Ok.ensures
