use Rattle.nfs3_replies.proofs.Written.{put, more}
use Rattle.nfs3_replies.proofs.forms.put_committed.Goals as goal

pub returns : goal.returns
returns c = (more _ (more _ (put _ _ c.put_u32.ensures.written) c.put_wcc.ensures.written) c.put_words.ensures.written).is
