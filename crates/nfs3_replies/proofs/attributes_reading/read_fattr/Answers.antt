use Rattle.std.proofs.Common.{[], ◌∷◌}
use Rattle.wire_model.proofs.OneReading.{one_word, one_double_word, one_moment}
use Rattle.nfs_model.proofs.OneReplies.{one_kind}
use Rattle.nfs3_replies.proofs.ReadAttributes.{made_fattr}
use Rattle.nfs3_replies.proofs.ReadConstants.{one_constant}
use Rattle.wire_model.proofs.PartByPart.{◌▸◌, part, made_read}
use Rattle.nfs3_replies.proofs.attributes_reading.read_fattr.Goals as goal

pub returns : goal.returns
returns c =
    (made_read made_fattr (
    part one_kind c.read_kind-kind.ensures ▸ part one_word c.u32-mode.ensures ▸ part one_word c.u32-nlink.ensures ▸ part one_word c.u32-uid.ensures ▸ part one_word c.u32-gid.ensures
    ▸ part one_double_word c.u64-size.ensures ▸ part one_double_word c.u64-used.ensures ▸ part (one_constant (0 ∷ 0 ∷ [])) c.read_constant.ensures ▸ part one_double_word c.u64-fsid.ensures ▸ part one_double_word c.u64-fileid.ensures
    ▸ part one_moment c.read_time-atime.ensures ▸ part one_moment c.read_time-mtime.ensures ▸ part one_moment c.read_time-ctime.ensures
    )).reads
