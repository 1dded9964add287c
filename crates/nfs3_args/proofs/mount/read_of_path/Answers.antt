use Rattle.std.proofs.Common.{◌≡◌, arith}
use Rattle.wire_model.proofs.PartByPart.{part, made_read}
use Rattle.nfs_model.proofs.OneArguments.{one_path}
use Rattle.nfs3_args.proofs.Procedures.{numbered, made_mnt, made_umnt}
use Rattle.nfs3_args.proofs.mount.read_of_path.Goals as goal

pub returns-then-procedure-eq1 : goal.returns-then-procedure-eq1
returns-then-procedure-eq1 c = rw c.in_ok-path.ensures (numbered c.if-procedure-eq1.true (made_read made_mnt (part one_path c.opaque-path.ensures)).reads)

pub returns-else-procedure-eq1 : goal.returns-else-procedure-eq1
returns-else-procedure-eq1 c =
    let last : c.args.procedure ≡ 3 = grind (arith, c.requires) in
    rw c.in_ok-path.ensures (numbered last (made_read made_umnt (part one_path c.opaque-path.ensures)).reads)
