use Rattle.nfs_model.proofs.OneReplies.{one_wcc}
use Rattle.nfs3_replies.proofs.ReadForms.{made_changed}
use Rattle.wire_model.proofs.PartByPart.{part, made_read}
use Rattle.nfs3_replies.proofs.forms_reading.read_changed.Goals as goal

pub returns : goal.returns
returns c = (made_read made_changed (part one_wcc c.read_wcc-cache.ensures)).reads
