use Rattle.nfs3_replies.proofs.Written.{put, more}
use Rattle.nfs3_replies.proofs.forms.put_text.Goals as goal

pub returns : goal.returns
returns c = (more _ (more _ (put _ _ c.put_u32.ensures.written) c.put_optional_fattr.ensures.written) (rw c.as_slice.ensures at c.put_opaque.ensures.written)).is
