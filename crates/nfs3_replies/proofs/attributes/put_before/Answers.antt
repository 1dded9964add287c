use Rattle.nfs3_replies.proofs.Written.{put, more}
use Rattle.nfs3_replies.proofs.attributes.put_before.Goals as goal

pub returns-clause-written : goal.returns-clause-written
returns-clause-written c = (more _ (more _ (put _ _ c.put_u64.ensures.written) c.put_time.ensures.written) c.put_time-2.ensures.written).is
