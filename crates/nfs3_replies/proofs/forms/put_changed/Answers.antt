use Rattle.nfs3_replies.proofs.Written.{put, more}
use Rattle.nfs3_replies.proofs.forms.put_changed.Goals as goal

pub returns : goal.returns
returns c = (more _ (put _ _ c.put_u32.ensures.written) c.put_wcc.ensures.written).is
