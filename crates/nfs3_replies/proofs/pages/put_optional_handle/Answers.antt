use Rattle.nfs3_replies.proofs.Written.{put, more}
use Rattle.nfs3_replies.proofs.pages.put_optional_handle.Goals as goal

pub returns-in-Some-clause-written : goal.returns-in-Some-clause-written
returns-in-Some-clause-written c = rw c.in-Some.is ((more _ (put _ _ c.put_bool-in-Some.ensures.written) (rw c.as_slice.ensures at c.put_opaque.ensures.written)).is)
