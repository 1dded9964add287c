use Rattle.std.proofs.Common.{append_assoc}
use Rattle.nfs3_replies.proofs.forms.put_made.Goals as goal

pub returns : goal.returns
returns c = simp (c.put_wcc.ensures.written, c.put_optional_fattr.ensures.written, (rw c.as_slice.ensures at c.put_opaque.ensures.written), c.put_bool.ensures.written, c.put_u32.ensures.written, append_assoc)
