use Rattle.wire_model.proofs.OneReading.{one_double_word}
use Rattle.nfs_model.proofs.OneReplies.{one_post_attributes}
use Rattle.nfs3_replies.proofs.ReadForms.{text_read, one_given_handle}
use Rattle.nfs3_replies.proofs.ReadPages.{made_plus}
use Rattle.wire_model.proofs.PartByPart.{◌▸◌, part, made_read}
use Rattle.nfs3_replies.proofs.pages_reading.read_plus_entry.Goals as goal

pub returns : goal.returns
returns c = rw (c.in_ok-name.ensures, c.in_ok-handle.ensures) (made_read made_plus (part one_double_word c.u64-fileid.ensures ▸ text_read c.opaque-name.ensures ▸ part one_double_word c.u64-cookie.ensures ▸ part one_post_attributes c.read_optional_fattr-attributes.ensures ▸ part one_given_handle c.read_given_handle-handle.ensures)).reads
