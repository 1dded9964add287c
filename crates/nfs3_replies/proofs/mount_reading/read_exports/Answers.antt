use Rattle.std.proofs.Common.{[], ◌∷◌}
use Rattle.nfs3_replies.proofs.ReadConstants.{one_constant}
use Rattle.nfs3_replies.proofs.ReadMounts.{made_exports}
use Rattle.wire_model.proofs.PartByPart.{part, made_read}
use Rattle.nfs3_replies.proofs.mount_reading.read_exports.Goals as goal

pub returns : goal.returns
returns c = (made_read made_exports (part (one_constant (1 ∷ 1 ∷ 788529152 ∷ 0 ∷ 0 ∷ [])) c.read_constant.ensures)).reads
