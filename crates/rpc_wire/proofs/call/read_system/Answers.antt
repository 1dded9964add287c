use Rattle.wire_model.proofs.PartByPart.{◌▸◌, part}
use Rattle.rpc_wire.proofs.Calls.{one_user, one_groups, no_whole_system}
use Rattle.rpc_wire.proofs.call.read_system.Goals as goal

pub returns-then-not-are_read-clause-caller : goal.returns-then-not-are_read-clause-caller
returns-then-not-are_read-clause-caller c =
    no_whole_system (part one_user (rw c.of-parts.ensures at c.read_user-uid.ensures.2) ▸ part one_groups c.read_groups-count.ensures.reads).reads
    (c.are_read.ensures.more c.if-not-are_read.true)
