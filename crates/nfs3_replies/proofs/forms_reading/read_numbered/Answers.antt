use Rattle.nfs_model.proofs.OneReplies.{one_post_attributes}
use Rattle.nfs3_replies.proofs.ReadConstants.{one_constant}
use Rattle.wire_model.proofs.PartByPart.{◌▸◌, part}
use Rattle.nfs3_replies.proofs.forms_reading.read_numbered.Goals as goal

pub returns : goal.returns
returns c = (part one_post_attributes c.read_optional_fattr-object.ensures ▸ part (one_constant c.args.words.now) c.read_constant.ensures).reads
