use Rattle.nfs3_replies.proofs.Written.{put, more}
use Rattle.nfs3_replies.proofs.forms.put_refused.Goals as goal

pub returns : goal.returns
returns c = (more _ (put _ _ (rw c.status_number.ensures at c.put_u32.ensures.written)) c.put_tail.ensures).is
