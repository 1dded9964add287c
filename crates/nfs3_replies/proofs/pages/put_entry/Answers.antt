use Rattle.nfs3_replies.proofs.Written.{put, more}
use Rattle.nfs3_replies.proofs.pages.put_entry.Goals as goal

pub returns-clause-written : goal.returns-clause-written
returns-clause-written c = (more _ (more _ (more _ (put _ _ c.put_bool.ensures.written) c.put_u64.ensures.written) (rw c.as_slice.ensures at c.put_opaque.ensures.written)) c.put_u64-2.ensures.written).is
