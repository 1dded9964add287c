use Rattle.std.proofs.Common.{[], ◌∷◌}
use Rattle.nfs_model.proofs.OneArguments.{one_handle}
use Rattle.nfs3_replies.proofs.ReadConstants.{one_constant}
use Rattle.nfs3_replies.proofs.ReadForms.{made_given}
use Rattle.wire_model.proofs.PartByPart.{◌▸◌, part, made_read}
use Rattle.nfs3_replies.proofs.forms_reading.read_given_handle.Goals as goal

pub returns : goal.returns
returns c = (made_read made_given (part (one_constant (1 ∷ [])) c.read_constant.ensures ▸ part one_handle c.opaque.ensures)).reads
