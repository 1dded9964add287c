use Rattle.std.proofs.Common.{sym}
use Rattle.nfs3_replies.proofs.ReadAnswers.{status_read, status_missed}
use Rattle.nfs3_replies.proofs.reading.read_status.Goals as goal

pub returns-then-number-eq0 : goal.returns-then-number-eq0
returns-then-number-eq0 c = status_read c.u32-number.ensures (sym c.if-number-eq0.true)

pub returns-in-Some : goal.returns-in-Some
returns-in-Some c = status_read c.u32-number.ensures (rw c.in-Some.is at c.status_of.ensures)

pub returns-in-None : goal.returns-in-None
returns-in-None c = status_missed c.u32-number.ensures c.if-number-eq0.false (rw c.in-None.is at c.status_of.ensures) c.miss.ensures
