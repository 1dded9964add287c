use Rattle.wire_model.proofs.OneReading.{one_double_word}
use Rattle.nfs3_replies.proofs.ReadPages.{made_plain}
use Rattle.nfs3_replies.proofs.ReadForms.{text_read}
use Rattle.wire_model.proofs.PartByPart.{◌▸◌, part, made_read}
use Rattle.nfs3_replies.proofs.pages_reading.read_plain_entry.Goals as goal

pub returns : goal.returns
returns c = rw c.in_ok-name.ensures (made_read made_plain (part one_double_word c.u64-fileid.ensures ▸ text_read c.opaque-name.ensures ▸ part one_double_word c.u64-cookie.ensures)).reads
