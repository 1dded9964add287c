use Rattle.wire_model.proofs.OneReading.{one_word, one_boolean}
use Rattle.nfs_model.proofs.OneReplies.{one_post_attributes}
use Rattle.nfs3_replies.proofs.ReadForms.{text_read, made_content}
use Rattle.wire_model.proofs.PartByPart.{◌▸◌, part, made_read}
use Rattle.nfs3_replies.proofs.forms_reading.read_content.Goals as goal

pub returns : goal.returns
returns c = rw c.in_ok-bytes.ensures (made_read made_content (part one_post_attributes c.read_optional_fattr-file.ensures ▸ part one_word c.u32-count.ensures ▸ part one_boolean c.boolean-eof.ensures.reads ▸ text_read c.opaque-bytes.ensures)).reads
