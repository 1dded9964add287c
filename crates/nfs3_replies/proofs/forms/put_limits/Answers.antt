use Rattle.nfs3_replies.proofs.Written.{put, more, limits_written}
use Rattle.nfs3_replies.proofs.forms.put_limits.Goals as goal

pub returns : goal.returns
returns c = limits_written c.args.out.now.written c.args.object.now ((more _ (more _ (put _ _ c.put_u32.ensures.written) c.put_optional_fattr.ensures.written) c.put_words.ensures.written).is)
