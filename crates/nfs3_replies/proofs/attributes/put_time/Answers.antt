use Rattle.nfs3_replies.proofs.Written.{put, more}
use Rattle.nfs3_replies.proofs.attributes.put_time.Goals as goal

pub returns-clause-written : goal.returns-clause-written
returns-clause-written c = (more _ (put _ _ c.put_u32.ensures.written) c.put_u32-2.ensures.written).is
