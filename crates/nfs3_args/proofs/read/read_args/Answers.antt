use Rattle.nfs3_args.proofs.Calls.{all_read, not_all_read}
use Rattle.nfs3_args.proofs.read.read_args.Goals as goal

pub returns-then-are_read-clause-ok : goal.returns-then-are_read-clause-ok
returns-then-are_read-clause-ok c = all_read (rw c.of-parts.ensures at c.in_ok-args.ensures) (c.are_read.ensures.all c.if-are_read.true)

pub returns-else-are_read-clause-err : goal.returns-else-are_read-clause-err
returns-else-are_read-clause-err c = not_all_read (rw c.of-parts.ensures at c.in_ok-args.ensures) (c.are_read.ensures.more c.if-are_read.false)
