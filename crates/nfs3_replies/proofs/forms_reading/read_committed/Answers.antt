use Rattle.std.proofs.Common.{[], ◌∷◌}
use Rattle.nfs_model.proofs.OneReplies.{one_wcc}
use Rattle.nfs3_replies.proofs.ReadConstants.{one_constant}
use Rattle.nfs3_replies.proofs.ReadForms.{made_committed}
use Rattle.wire_model.proofs.PartByPart.{◌▸◌, part, made_read}
use Rattle.nfs3_replies.proofs.forms_reading.read_committed.Goals as goal

pub returns : goal.returns
returns c = (made_read made_committed (part one_wcc c.read_wcc-cache.ensures ▸ part (one_constant (1230395734 ∷ 1163019825 ∷ [])) c.read_constant.ensures)).reads
