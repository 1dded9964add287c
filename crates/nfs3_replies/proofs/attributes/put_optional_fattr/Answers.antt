use Rattle.nfs3_replies.proofs.Written.{put, more}
use Rattle.nfs3_replies.proofs.attributes.put_optional_fattr.Goals as goal

pub returns-in-Some-clause-written : goal.returns-in-Some-clause-written
returns-in-Some-clause-written c = rw c.in-Some.is ((more _ (put _ _ c.put_bool-in-Some.ensures.written) c.put_fattr.ensures.written).is)
