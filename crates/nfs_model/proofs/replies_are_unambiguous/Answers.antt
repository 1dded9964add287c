use Rattle.nfs_model.proofs.OneReplies.{read_one, one_reply}
use Rattle.nfs_model.proofs.replies_are_unambiguous.Goals as goal

pub returns-clause-fronts : goal.returns-clause-fronts
returns-clause-fronts c = read_one

pub returns-clause-whole : goal.returns-clause-whole
returns-clause-whole c = one_reply
