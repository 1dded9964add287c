use Rattle.wire_model.proofs.OneReading.{one_word}
use Rattle.wire_model.proofs.PartByPart.{◌▸◌, part, made_read}
use Rattle.nfs3_args.proofs.PartsReading.{made_moment}
use Rattle.nfs3_args.proofs.parts.read_moment.Goals as goal

pub returns : goal.returns
returns c = (made_read made_moment (part one_word c.u32-sec.ensures ▸ part one_word c.u32-nsec.ensures)).reads
