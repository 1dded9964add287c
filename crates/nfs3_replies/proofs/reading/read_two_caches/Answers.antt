use Rattle.nfs3_replies.proofs.ReadAnswers.{two_caches_read}
use Rattle.nfs3_replies.proofs.reading.read_two_caches.Goals as goal

pub returns : goal.returns
returns c = two_caches_read c.read_wcc-from.ensures c.read_wcc-to.ensures
