use Rattle.wire_model.proofs.OneReading.{one_optional}
use Rattle.nfs_model.proofs.OneReplies.{one_before, one_fattr}
use Rattle.nfs3_replies.proofs.ReadAttributes.{made_wcc}
use Rattle.wire_model.proofs.PartByPart.{◌▸◌, part, made_read}
use Rattle.nfs3_replies.proofs.attributes_reading.read_wcc.Goals as goal

pub returns : goal.returns
returns c = (made_read made_wcc (part (one_optional one_before) c.read_optional_before-before.ensures ▸ part (one_optional one_fattr) c.read_optional_fattr-after.ensures)).reads
