use Rattle.wire_model.proofs.PartByPart.{◌▸◌, part, made_read}
use Rattle.nfs_model.proofs.OneArguments.{one_handle}
use Rattle.nfs3_args.proofs.PartsReading.{one_place}
use Rattle.nfs3_args.proofs.Procedures.{made_link}
use Rattle.nfs3_args.proofs.nfs.read_link.Goals as goal

pub returns : goal.returns
returns c = rw c.in_ok-file.ensures (made_read made_link (part one_handle c.opaque-file.ensures ▸ part one_place c.in_ok-dir.ensures)).reads
