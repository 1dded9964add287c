use Rattle.wire_model.proofs.PartByPart.{◌▸◌, part, made_read}
use Rattle.nfs3_args.proofs.PartsReading.{one_place}
use Rattle.nfs3_args.proofs.Procedures.{made_rename}
use Rattle.nfs3_args.proofs.nfs.read_rename.Goals as goal

pub returns : goal.returns
returns c = (made_read made_rename (part one_place c.in_ok-dir.ensures ▸ part one_place c.in_ok-to_dir.ensures)).reads
