use Rattle.std.proofs.Common.{◌≡◌, arith}
use Rattle.wire_model.proofs.PartByPart.{◌▸◌, part, made_read}
use Rattle.nfs_model.proofs.OneArguments.{one_set_what, one_how, one_node}
use Rattle.nfs3_args.proofs.PartsReading.{one_place}
use Rattle.nfs3_args.proofs.Procedures.{numbered, made_lookup, made_create, made_mkdir, made_mknod, made_remove, made_rmdir}
use Rattle.nfs3_args.proofs.nfs.read_of_place.Goals as goal

pub returns-in-3 : goal.returns-in-3
returns-in-3 c = numbered c.in-3.is (made_read made_lookup (part one_place c.in_ok-dir.ensures)).reads

pub returns-in-8 : goal.returns-in-8
returns-in-8 c = numbered c.in-8.is (made_read made_create (part one_place c.in_ok-dir.ensures ▸ part one_how c.read_how.ensures)).reads

pub returns-in-9 : goal.returns-in-9
returns-in-9 c = numbered c.in-9.is (made_read made_mkdir (part one_place c.in_ok-dir.ensures ▸ part one_set_what c.read_set_what.ensures)).reads

pub returns-in-11 : goal.returns-in-11
returns-in-11 c = numbered c.in-11.is (made_read made_mknod (part one_place c.in_ok-dir.ensures ▸ part one_node c.read_node.ensures)).reads

pub returns-in-12 : goal.returns-in-12
returns-in-12 c = numbered c.in-12.is (made_read made_remove (part one_place c.in_ok-dir.ensures)).reads

pub returns-in_default : goal.returns-in_default
returns-in_default c =
    let last : c.args.procedure ≡ 13 = grind (arith, c.requires) in
    numbered last (made_read made_rmdir (part one_place c.in_ok-dir.ensures)).reads
