use Rattle.std.proofs.Common.{refl}
use Rattle.ivy_cli.proofs.ForkLemmas.{lacked, refusal_told, shown_told, unread}
use Rattle.ivy_cli.proofs.forking.fork.Goals as goal

pub returns-in-Ok-Some : goal.returns-in-Ok-Some
returns-in-Ok-Some g c = shown_told _ _ _ c.read_told.ensures.takes c.read_told.ensures.later c.as_slice.result.now
    (rw c.as_slice.ensures (rw c.in-Ok-Some.field-0-is at c.in-Ok-Some.ensures.ok))
    c.tell.ensures.statuses c.tell.ensures.whole c.tell.ensures.part c.tell.ensures.failed c.tell.ensures.later

pub returns-in-Ok-None : goal.returns-in-Ok-None
returns-in-Ok-None g c = refusal_told _ _ _ c.read_told.ensures.takes c.read_told.ensures.later (rw c.in-Ok-None.field-0-is at c.in-Ok-None.ensures.ok)
    c.refuse.ensures.statuses c.refuse.ensures.whole c.refuse.ensures.part c.refuse.ensures.failed c.refuse.ensures.later

pub returns-in-Err-Read : goal.returns-in-Err-Read
returns-in-Err-Read g c = unread _ _ _ c.read_told.ensures.takes c.read_told.ensures.later refl (rw c.in-Err-Read.field-0-is at c.in-Err-Read.ensures.fails) refl refl

pub returns-in-Err-Write : goal.returns-in-Err-Write
returns-in-Err-Write g c = absurd (rw c.in-Err-Write.field-0-is at c.in-Err-Write.ensures.fails)

pub returns-in-Err-Memory : goal.returns-in-Err-Memory
returns-in-Err-Memory g c = lacked _ _ _ c.read_told.ensures.takes c.read_told.ensures.later refl refl refl
