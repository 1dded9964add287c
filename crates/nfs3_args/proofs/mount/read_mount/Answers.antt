use Rattle.std.proofs.Common.{refl, arith}
use Rattle.nfs3_args.proofs.Calls.{empty_read, no_such_mount}
use Rattle.nfs3_args.proofs.mount.read_mount.Goals as goal

pub returns-in-0 : goal.returns-in-0
returns-in-0 c = empty_read c.args.parts.now (record { program_is = refl; procedure_is = c.in-0.is; fit = tt }) refl

pub returns-in-2 : goal.returns-in-2
returns-in-2 c = empty_read c.args.parts.now (record { program_is = refl; procedure_is = c.in-2.is; fit = tt }) refl

pub returns-in-4 : goal.returns-in-4
returns-in-4 c = empty_read c.args.parts.now (record { program_is = refl; procedure_is = c.in-4.is; fit = tt }) refl

pub returns-in-5 : goal.returns-in-5
returns-in-5 c = empty_read c.args.parts.now (record { program_is = refl; procedure_is = c.in-5.is; fit = tt }) refl

pub returns-in_default : goal.returns-in_default
returns-in_default c = no_such_mount (grind arith) c.miss.ensures
