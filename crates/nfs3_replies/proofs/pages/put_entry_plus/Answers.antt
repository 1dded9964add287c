use Rattle.nfs3_replies.proofs.Written.{put, more}
use Rattle.nfs3_replies.proofs.pages.put_entry_plus.Goals as goal

pub returns-clause-written : goal.returns-clause-written
returns-clause-written c = (more _ (more _ (put _ _ c.put_entry.ensures.written) c.put_optional_fattr.ensures.written) c.put_optional_handle.ensures.written).is
