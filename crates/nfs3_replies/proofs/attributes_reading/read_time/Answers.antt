use Rattle.wire_model.proofs.OneReading.{one_word}
use Rattle.nfs3_replies.proofs.ReadAttributes.{made_moment}
use Rattle.wire_model.proofs.PartByPart.{◌▸◌, part, made_read}
use Rattle.nfs3_replies.proofs.attributes_reading.read_time.Goals as goal

pub returns : goal.returns
returns c = (made_read made_moment (part one_word c.u32-sec.ensures ▸ part one_word c.u32-nsec.ensures)).reads
