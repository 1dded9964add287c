use Rattle.nfs_model.proofs.OneReplies.{one_fattr}
use Rattle.wire_model.proofs.PartByPart.{part, made_read}
use Rattle.nfs3_replies.proofs.ReadForms.{one_numbered, made_attributes, space_words, made_space, limits_words, made_limits, paths_words, made_paths}
use Rattle.nfs3_replies.proofs.ReadAnswers.{done_at}
use Rattle.nfs3_replies.proofs.reading.read_done.Goals as goal

pub returns-in-1 : goal.returns-in-1
returns-in-1 c = done_at c.in-1.is (made_read made_attributes (part one_fattr c.read_fattr.ensures)).reads

pub returns-in-18 : goal.returns-in-18
returns-in-18 c = done_at c.in-18.is (made_read made_space (part (one_numbered space_words) c.read_numbered.ensures)).reads

pub returns-in-19 : goal.returns-in-19
returns-in-19 c = done_at c.in-19.is (made_read made_limits (part (one_numbered limits_words) c.read_numbered-in-19.ensures)).reads

pub returns-in-20 : goal.returns-in-20
returns-in-20 c = done_at c.in-20.is (made_read made_paths (part (one_numbered paths_words) c.read_numbered-in-20.ensures)).reads
