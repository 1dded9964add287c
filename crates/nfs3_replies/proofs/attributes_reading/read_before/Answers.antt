use Rattle.wire_model.proofs.OneReading.{one_double_word, one_moment}
use Rattle.nfs3_replies.proofs.ReadAttributes.{made_before}
use Rattle.wire_model.proofs.PartByPart.{◌▸◌, part, made_read}
use Rattle.nfs3_replies.proofs.attributes_reading.read_before.Goals as goal

pub returns : goal.returns
returns c = (made_read made_before (part one_double_word c.u64-size.ensures ▸ part one_moment c.read_time-mtime.ensures ▸ part one_moment c.read_time-ctime.ensures)).reads
