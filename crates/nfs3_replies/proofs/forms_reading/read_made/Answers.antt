use Rattle.nfs_model.proofs.OneReplies.{one_wcc, one_post_attributes}
use Rattle.nfs3_replies.proofs.ReadForms.{made_object, one_given_handle}
use Rattle.wire_model.proofs.PartByPart.{◌▸◌, part, made_read}
use Rattle.nfs3_replies.proofs.forms_reading.read_made.Goals as goal

pub returns : goal.returns
returns c = rw c.in_ok-handle.ensures (made_read made_object (part one_given_handle c.read_given_handle-handle.ensures ▸ part one_post_attributes c.read_optional_fattr-object.ensures ▸ part one_wcc c.read_wcc-cache.ensures)).reads
