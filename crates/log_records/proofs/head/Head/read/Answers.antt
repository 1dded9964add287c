use Rattle.log_records.proofs.OneHead.{whole_head, no_whole_head}
use Rattle.log_records.proofs.head.Head.read.Goals as goal

pub returns-then-are_read-clause-some : goal.returns-then-are_read-clause-some
returns-then-are_read-clause-some c = whole_head c.of-parts.ensures c.read_head-head.ensures (c.are_read.ensures.all c.if-are_read.true)

pub returns-else-are_read-clause-none : goal.returns-else-are_read-clause-none
returns-else-are_read-clause-none c = no_whole_head c.of-parts.ensures c.read_head-head.ensures (c.are_read.ensures.more c.if-are_read.false)
