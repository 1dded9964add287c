use Rattle.wire_model.proofs.Made.{if_ok_by}
use Rattle.wire_model.proofs.PartByPart.{◌▸◌, part}
use Rattle.nfs_model.proofs.OneArguments.{one_handle, one_text}
use Rattle.nfs3_args.proofs.parts.read_place.Goals as goal

pub returns : goal.returns
returns c = if_ok_by c.copy_two.result (λ p same. rw same (part one_handle c.opaque-dir.ensures ▸ part one_text c.opaque-name.ensures).reads) c.copy_two.ensures
