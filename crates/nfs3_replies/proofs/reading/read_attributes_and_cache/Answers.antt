use Rattle.nfs3_replies.proofs.ReadAnswers.{attributes_and_cache_read}
use Rattle.nfs3_replies.proofs.reading.read_attributes_and_cache.Goals as goal

pub returns : goal.returns
returns c = attributes_and_cache_read c.read_optional_fattr-file.ensures c.read_wcc-dir.ensures
