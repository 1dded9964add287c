use Rattle.wire_model.proofs.OneReading.{one_word}
use Rattle.wire_model.proofs.PartByPart.{◌▸◌, part}
use Rattle.rpc_wire.proofs.call.read_words.Goals as goal

pub returns : goal.returns
returns c = (part one_word c.u32-first.ensures ▸ part one_word c.u32-second.ensures ▸ part one_word c.u32-third.ensures).reads
