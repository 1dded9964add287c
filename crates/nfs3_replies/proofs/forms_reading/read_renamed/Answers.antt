use Rattle.nfs_model.proofs.OneReplies.{one_wcc}
use Rattle.nfs3_replies.proofs.ReadForms.{made_renamed}
use Rattle.wire_model.proofs.PartByPart.{◌▸◌, part, made_read}
use Rattle.nfs3_replies.proofs.forms_reading.read_renamed.Goals as goal

pub returns : goal.returns
returns c = (made_read made_renamed (part one_wcc c.read_wcc-from.ensures ▸ part one_wcc c.read_wcc-to.ensures)).reads
