use Rattle.std.proofs.Common.{arith}
use Rattle.nfs3_args.proofs.AttributesReading.{keep_read, server_read, client_read, no_such_time}
use Rattle.nfs3_args.proofs.attributes.read_set_time.Goals as goal

pub returns-in-0 : goal.returns-in-0
returns-in-0 c = keep_read c.u32.ensures c.in-0.is

pub returns-in-1 : goal.returns-in-1
returns-in-1 c = server_read c.u32.ensures c.in-1.is

pub returns-in-2 : goal.returns-in-2
returns-in-2 c = client_read c.u32.ensures c.in-2.is c.read_moment.ensures

pub returns-in_default : goal.returns-in_default
returns-in_default c = no_such_time c.u32.ensures (omega arith) c.miss.ensures
