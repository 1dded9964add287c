use Rattle.wire_model.proofs.OneReading.{one_word}
use Rattle.nfs_model.proofs.OneReplies.{one_post_attributes}
use Rattle.nfs3_replies.proofs.ReadForms.{made_allowed}
use Rattle.wire_model.proofs.PartByPart.{◌▸◌, part, made_read}
use Rattle.nfs3_replies.proofs.forms_reading.read_allowed.Goals as goal

pub returns : goal.returns
returns c = (made_read made_allowed (part one_post_attributes c.read_optional_fattr-object.ensures ▸ part one_word c.u32-bits.ensures)).reads
