use Rattle.wire_model.proofs.OneReading.{one_word}
use Rattle.wire_model.proofs.PartByPart.{◌▸◌, part}
use Rattle.rpc_wire.proofs.Calls.{one_name}
use Rattle.rpc_wire.proofs.call.read_user.Goals as goal

pub returns : goal.returns
returns c = (c.u32-stamp.result, c.opaque-machine.result.now, (part one_word c.u32-stamp.ensures ▸ part one_name c.opaque-machine.ensures ▸ part one_word c.u32-uid.ensures ▸ part one_word c.u32-gid.ensures).reads)
