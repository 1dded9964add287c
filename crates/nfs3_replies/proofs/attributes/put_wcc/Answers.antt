use Rattle.nfs3_replies.proofs.Written.{put, more}
use Rattle.nfs3_replies.proofs.attributes.put_wcc.Goals as goal

pub returns-clause-written : goal.returns-clause-written
returns-clause-written c = (more _ (put _ _ c.put_optional_before.ensures.written) c.put_optional_fattr.ensures.written).is
