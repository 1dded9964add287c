use Rattle.nfs3_replies.proofs.Written.{put, more}
use Rattle.nfs3_replies.proofs.attributes.put_fattr.Goals as goal

pub returns-clause-written : goal.returns-clause-written
returns-clause-written c = (more _ (more _ (more _ (more _ (more _ (more _ (more _ (more _ (more _ (more _ (more _ (more _ (more _ (put _ _ (rw c.kind_number.ensures at c.put_u32.ensures.written)) c.put_u32-2.ensures.written) c.put_u32-3.ensures.written) c.put_u32-4.ensures.written) c.put_u32-5.ensures.written) c.put_u64.ensures.written) c.put_u64-2.ensures.written) c.put_u32-6.ensures.written) c.put_u32-7.ensures.written) c.put_u64-3.ensures.written) c.put_u64-4.ensures.written) c.put_time.ensures.written) c.put_time-2.ensures.written) c.put_time-3.ensures.written).is
