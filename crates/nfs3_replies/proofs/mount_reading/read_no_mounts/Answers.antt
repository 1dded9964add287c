use Rattle.std.proofs.Common.{[], ◌∷◌}
use Rattle.nfs3_replies.proofs.ReadConstants.{one_constant}
use Rattle.nfs3_replies.proofs.ReadMounts.{made_no_mounts}
use Rattle.wire_model.proofs.PartByPart.{part, made_read}
use Rattle.nfs3_replies.proofs.mount_reading.read_no_mounts.Goals as goal

pub returns : goal.returns
returns c = (made_read made_no_mounts (part (one_constant (0 ∷ [])) c.read_constant.ensures)).reads
