use Rattle.nfs_model.proofs.OneReplies.{one_post_attributes}
use Rattle.nfs3_replies.proofs.ReadForms.{text_read, made_text}
use Rattle.wire_model.proofs.PartByPart.{◌▸◌, part, made_read}
use Rattle.nfs3_replies.proofs.forms_reading.read_text.Goals as goal

pub returns : goal.returns
returns c = rw c.in_ok-text.ensures (made_read made_text (part one_post_attributes c.read_optional_fattr-link.ensures ▸ text_read c.opaque-text.ensures)).reads
