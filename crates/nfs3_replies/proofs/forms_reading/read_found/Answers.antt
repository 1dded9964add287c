use Rattle.nfs_model.proofs.OneArguments.{one_handle}
use Rattle.nfs_model.proofs.OneReplies.{one_post_attributes}
use Rattle.nfs3_replies.proofs.ReadForms.{made_found}
use Rattle.wire_model.proofs.PartByPart.{◌▸◌, part, made_read}
use Rattle.nfs3_replies.proofs.forms_reading.read_found.Goals as goal

pub returns : goal.returns
returns c = rw c.in_ok-handle.ensures (made_read made_found (part one_handle c.opaque-handle.ensures ▸ part one_post_attributes c.read_optional_fattr-object.ensures ▸ part one_post_attributes c.read_optional_fattr-dir.ensures)).reads
