use Rattle.wire_model.proofs.PartByPart.{◌▸◌, part, made_read}
use Rattle.nfs_model.proofs.OneArguments.{one_text, one_set_what}
use Rattle.nfs3_args.proofs.PartsReading.{one_place}
use Rattle.nfs3_args.proofs.Procedures.{made_symlink}
use Rattle.nfs3_args.proofs.nfs.read_symlink.Goals as goal

pub returns : goal.returns
returns c = rw c.in_ok-text.ensures (made_read made_symlink (part one_place c.in_ok-dir.ensures ▸ part one_set_what c.read_set_what-what.ensures ▸ part one_text c.opaque-text.ensures)).reads
