use Rattle.std.proofs.Common.{refl, arith}
use Rattle.nfs3_args.proofs.Calls.{empty_read, no_such_nfs}
use Rattle.nfs3_args.proofs.nfs.read_nfs.Goals as goal

pub returns-in-0 : goal.returns-in-0
returns-in-0 c = empty_read c.args.parts.now (record { program_is = refl; procedure_is = c.in-0.is; fit = tt }) refl

pub returns-in_default : goal.returns-in_default
returns-in_default c = no_such_nfs (omega arith) c.miss.ensures
