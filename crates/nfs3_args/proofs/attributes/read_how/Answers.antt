use Rattle.std.proofs.Common.{arith}
use Rattle.nfs3_args.proofs.AttributesReading.{unchecked_read, guarded_read, exclusive_read, no_such_how}
use Rattle.nfs3_args.proofs.attributes.read_how.Goals as goal

pub returns-in-0 : goal.returns-in-0
returns-in-0 c = unchecked_read c.u32.ensures c.in-0.is c.read_set_what.ensures

pub returns-in-1 : goal.returns-in-1
returns-in-1 c = guarded_read c.u32.ensures c.in-1.is c.read_set_what-in-1.ensures

pub returns-in-2 : goal.returns-in-2
returns-in-2 c = exclusive_read c.u32.ensures c.in-2.is c.eight.ensures

pub returns-in_default : goal.returns-in_default
returns-in_default c = no_such_how c.u32.ensures (omega arith) c.miss.ensures
