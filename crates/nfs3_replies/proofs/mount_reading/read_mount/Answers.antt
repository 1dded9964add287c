use Rattle.std.proofs.Common.{[], ◌∷◌}
use Rattle.nfs_model.proofs.OneArguments.{one_handle}
use Rattle.nfs3_replies.proofs.ReadConstants.{one_constant}
use Rattle.nfs3_replies.proofs.ReadMounts.{mount_read, no_path_read, other_status}
use Rattle.wire_model.proofs.PartByPart.{◌▸◌, part}
use Rattle.nfs3_replies.proofs.mount_reading.read_mount.Goals as goal

pub returns-in_ok-handle : goal.returns-in_ok-handle
returns-in_ok-handle c = rw c.in_ok-handle.ensures (mount_read c.u32-status.ensures c.if-status-eq-OK.true (part one_handle c.opaque-handle.ensures ▸ part (one_constant (1 ∷ 1 ∷ [])) c.read_constant.ensures).reads)

pub returns-then-status-eq-NO_SUCH_PATH : goal.returns-then-status-eq-NO_SUCH_PATH
returns-then-status-eq-NO_SUCH_PATH c = no_path_read c.u32-status.ensures c.if-status-eq-NO_SUCH_PATH.true

pub returns-else-status-eq-NO_SUCH_PATH : goal.returns-else-status-eq-NO_SUCH_PATH
returns-else-status-eq-NO_SUCH_PATH c = other_status c.u32-status.ensures c.if-status-eq-OK.false c.if-status-eq-NO_SUCH_PATH.false c.miss.ensures
