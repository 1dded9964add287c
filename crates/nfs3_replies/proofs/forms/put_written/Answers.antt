use Rattle.nfs3_replies.proofs.Written.{put, more, written_written}
use Rattle.nfs3_replies.proofs.forms.put_written.Goals as goal

pub returns : goal.returns
returns c = written_written c.args.out.now.written c.args.cache.now c.args.count ((more _ (more _ (more _ (put _ _ c.put_u32.ensures.written) c.put_wcc.ensures.written) c.put_u32-2.ensures.written) c.put_words.ensures.written).is)
