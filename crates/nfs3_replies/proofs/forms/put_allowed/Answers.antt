use Rattle.nfs3_replies.proofs.Written.{put, more}
use Rattle.nfs3_replies.proofs.forms.put_allowed.Goals as goal

pub returns : goal.returns
returns c = (more _ (more _ (put _ _ c.put_u32.ensures.written) c.put_optional_fattr.ensures.written) c.put_u32-2.ensures.written).is
