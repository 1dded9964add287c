use Rattle.wire_model.proofs.OneReading.{one_double_word, one_optional}
use Rattle.wire_model.proofs.PartByPart.{◌▸◌, part, made_read}
use Rattle.nfs_model.proofs.OneArguments.{one_set_time}
use Rattle.nfs3_args.proofs.AttributesReading.{one_id, made_set_what}
use Rattle.nfs3_args.proofs.attributes.read_set_what.Goals as goal

pub returns : goal.returns
returns c =
    (made_read made_set_what (
    part one_id c.read_optional_word-mode.ensures ▸ part one_id c.read_optional_word-uid.ensures ▸ part one_id c.read_optional_word-gid.ensures
    ▸ part (one_optional one_double_word) c.read_optional_double_word-size.ensures ▸ part one_set_time c.read_set_time-atime.ensures ▸ part one_set_time c.read_set_time-mtime.ensures
    )).reads
