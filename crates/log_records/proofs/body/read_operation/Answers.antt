use Rattle.log_records.proofs.OneBody.{one_shape}
use Rattle.log_records.proofs.ReadParts.{is_whole, is_not_whole}
use Rattle.log_records.proofs.body.read_operation.Goals as goal

pub returns-then-are_read-clause-ok : goal.returns-then-are_read-clause-ok
returns-then-are_read-clause-ok c = is_whole c.of-parts.ensures c.in-Ok.ensures (c.are_read.ensures.all c.if-are_read.true)

pub returns-else-are_read-clause-err : goal.returns-else-are_read-clause-err
returns-else-are_read-clause-err c = is_not_whole c.of-parts.ensures c.in-Ok.ensures (one_shape c.args.kind) (c.are_read.ensures.more c.if-are_read.false)
