use Rattle.nfs_model.proofs.OneReplies.{one_wcc, one_post_attributes}
use Rattle.nfs3_replies.proofs.ReadForms.{made_linked}
use Rattle.wire_model.proofs.PartByPart.{◌▸◌, part, made_read}
use Rattle.nfs3_replies.proofs.forms_reading.read_linked.Goals as goal

pub returns : goal.returns
returns c = (made_read made_linked (part one_post_attributes c.read_optional_fattr-file.ensures ▸ part one_wcc c.read_wcc-cache.ensures)).reads
