use Rattle.std.proofs.Common.{arith}
use Rattle.nfs3_args.proofs.Calls.{no_such_program}
use Rattle.nfs3_args.proofs.read.read_procedure.Goals as goal

pub returns-in-100003 : goal.returns-in-100003
returns-in-100003 c = rw c.in-100003.is c.read_nfs.ensures

pub returns-in-100005 : goal.returns-in-100005
returns-in-100005 c = rw c.in-100005.is c.read_mount.ensures

pub returns-in_default : goal.returns-in_default
returns-in_default c = no_such_program (λ e. omega (arith, e)) (λ e. omega (arith, e)) c.miss.ensures
