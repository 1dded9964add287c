use Rattle.nfs3_replies.proofs.ReadAnswers.{whole_reply, no_whole_reply}
use Rattle.nfs3_replies.proofs.reading.read_reply.Goals as goal

pub returns-then-are_read-clause-ok : goal.returns-then-are_read-clause-ok
returns-then-are_read-clause-ok c = whole_reply c.args.program c.args.procedure c.requires (rw c.of-parts.ensures at c.in_ok-reply.ensures) (c.are_read.ensures.all c.if-are_read.true)

pub returns-else-are_read-clause-err : goal.returns-else-are_read-clause-err
returns-else-are_read-clause-err c = no_whole_reply c.args.program c.args.procedure c.requires (rw c.of-parts.ensures at c.in_ok-reply.ensures) (c.are_read.ensures.more c.if-are_read.false)
