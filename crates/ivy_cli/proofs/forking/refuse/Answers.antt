use Rattle.ivy_cli.proofs.ForkLemmas.{part_of_refusal, whole_refusal}
use Rattle.ivy_cli.proofs.forking.refuse.Goals as goal

pub returns-then-status-eq-STATUS_ENDED-clause-whole : goal.returns-then-status-eq-STATUS_ENDED-clause-whole
returns-then-status-eq-STATUS_ENDED-clause-whole g c =
    λ three. whole_refusal c.as_slice.result.now _ _ c.as_slice.ensures (c.tell-status.ensures.whole c.if-status-eq-STATUS_ENDED.true)

pub returns-else-status-eq-STATUS_ENDED-clause-part : goal.returns-else-status-eq-STATUS_ENDED-clause-part
returns-else-status-eq-STATUS_ENDED-clause-part g c =
    λ other. part_of_refusal c.as_slice.result.now _ _ c.as_slice.ensures (c.tell-status.ensures.part c.if-status-eq-STATUS_ENDED.false)
